-- What comes in a pull: sound operations, and not too many of them to count.
use Rattle.std.proofs.Common.{◌≡◌, ◌∙◌, ◌<◌, ◌≤◌, ◌+◌, ◌*◌, ℕ, Bool, true, false, List, [], ◌∷◌, ◌++◌, length, take, refl, sym, ap, subst}
use Rattle.std.proofs.Common.{arith, inl, inr, length-append, flat_map}
use Rattle.std.proofs.lemmas.List.{length-map}
use Rattle.std.proofs.Math.Seq.{take-append_seam}
use Rattle.std.specs.List.{AllByRecursion}
use Rattle.std.specs.Prelude.{cond}
use Rattle.console.specs.Pulls.{IsPullFault}
use Rattle.console.specs.declared.pulls.PullFault.TheVariants.{Failed}
use Rattle.gossip_line.specs.Pull.{Fails, IsWholeRound, PullsWell, Round, TakesAll, ops_in}
use Rattle.gossip_line.specs.Session.{Moment}
use Rattle.gossip_line.specs.declared.fault.LineFault.{LineFault}
use Rattle.gossip_line.specs.declared.fault.LineFault.TheVariants.{LongLine, BadVersion, ReadFault, WriteFault}
use Rattle.gossip_line.specs.declared.fault.LineFault.TheVariants.{NotListed}
use Rattle.gossip_line.specs.declared.fault.LineFault.TheVariants.{NoMemory, BadAnswer, Closed, FarAhead}
use Rattle.gossip_line.specs.declared.pull.Pulled.{Pulled}
use Rattle.line_reader.specs.Lines.{line_limit}
use Rattle.record_pull.specs.Pulling.{Comes, Gathers, most_rounds}
use Rattle.replica_core.specs.Journal.{arrived, all_arrived, has}
use Rattle.replica_core.specs.JournalLaws.{IsPartOf, all_arrived-append, all_arrived-push, has-all_arrived, has-first}
use Rattle.replica_core.specs.JournalLaws.{has-later, same_operation_cases}
use Rattle.review_ops.specs.Operation.{Operation}
use Rattle.snapshot_text.specs.Sound.{AreSoundOperations, IsSound}

-- ---- operations that are handed over one after the other

-- those before one are the first so many, not all
pub first_of : {T : Type 0} (all before : List T) (one : T) (rest : List T) → all ≡ before ++ one ∷ rest
    → (count : ℕ) × (count < length all) × (before ≡ take count all)
first_of all before one rest is =
    (length before, omega (arith, ap length is, length-append before (one ∷ rest)), sym (ap (take (length before)) is ∙ take-append_seam before (one ∷ rest)))

pub sound-append : (ops others : List Operation) → AreSoundOperations ops → AreSoundOperations others
    → AreSoundOperations (ops ++ others)
sound-append [] others sound more = more
sound-append (op ∷ ops) others sound more = (sound.0, sound-append ops others sound.1 more)

-- ---- the operations of all rounds

abbrev came_in : List Round → List Operation
came_in rounds = flat_map (λ round. ops_in round.lines) rounds

takes_all : (old : List Operation) (rounds : List Round) (new : List Operation) → TakesAll Gathers old rounds new
    → (new ≡ all_arrived old (came_in rounds)) × AreSoundOperations (came_in rounds)
takes_all old [] new is = (is, tt)
takes_all old (round ∷ rounds) new takes =
    let ops = ops_in round.lines in
    let handed = takes.1.2 in
    let later = takes_all takes.0 rounds new takes.2 in (
      later.0
          ∙ ap (λ journal. all_arrived journal (came_in rounds)) (handed.1 ∙ ap (λ journal. all_arrived journal ops) takes.1.1.1)
          ∙ sym (all_arrived-append old ops (came_in rounds)),
      sound-append ops (came_in rounds) handed.0 later.1,
    )

few_in : (limit : ℕ) (rounds : List Round) → AllByRecursion (IsWholeRound limit) rounds
    → length (came_in rounds) ≤ 256 * length rounds
few_in limit [] whole = omega arith
few_in limit (round ∷ rounds) whole =
    omega (arith, few_in limit rounds whole.1, whole.0.few, length-map round.lines (λ line. line.op), length-append (ops_in round.lines) (came_in rounds))

pub comes : (before after : Moment (List Operation)) (pulled : Pulled) → before.port ≡ []
    → PullsWell Gathers line_limit most_rounds before after pulled → Comes after.port
comes before after pulled none well =
    let all = takes_all before.port well.rounds well.mid.port well.pull.taken in
    record {
      ops = came_in well.rounds;
      sound = all.1;
      few = omega (arith, few_in line_limit well.rounds well.pull.whole, well.few);
      is = well.same.0 ∙ all.0 ∙ ap (λ journal. all_arrived journal (came_in well.rounds)) none;
    }

-- ---- faults

never_closed : (before after : Moment (List Operation))
    → Fails Gathers line_limit most_rounds before after Closed → ⊥
never_closed before after (counts, inl ungreeted) = ungreeted.3
never_closed before after (counts, inr left) = elim left.6 [
  | inl next ↦ elim next.3 [ inl front ↦ front.0 | inr taking ↦ taking.8 ]
  | inr unquit ↦ let other = unquit.fault_is in cc
]

never_listed : (before after : Moment (List Operation))
    → Fails Gathers line_limit most_rounds before after NotListed → ⊥
never_listed before after (counts, inl ungreeted) = ungreeted.3
never_listed before after (counts, inr left) = elim left.6 [
  | inl next ↦ elim next.3 [ inl front ↦ front.0 | inr taking ↦ taking.8 ]
  | inr unquit ↦ let other = unquit.fault_is in cc
]

never_far : (before after : Moment (List Operation))
    → Fails Gathers line_limit most_rounds before after FarAhead → ⊥
never_far before after (counts, inl ungreeted) = ungreeted.3
never_far before after (counts, inr left) = elim left.6 [
  | inl next ↦ elim next.3 [ inl front ↦ front.0 | inr taking ↦ taking.8 ]
  | inr unquit ↦ let other = unquit.fault_is in cc
]

pub may_fail : (before after : Moment (List Operation)) (fault : LineFault)
    → Fails Gathers line_limit most_rounds before after fault → IsPullFault (Failed fault)
may_fail before after LongLine fails = tt
may_fail before after BadVersion fails = tt
may_fail before after ReadFault fails = tt
may_fail before after WriteFault fails = tt
may_fail before after NoMemory fails = tt
may_fail before after BadAnswer fails = tt
may_fail before after Closed fails = absurd (never_closed before after fails)
may_fail before after NotListed fails = absurd (never_listed before after fails)
may_fail before after FarAhead fails = absurd (never_far before after fails)

-- ---- the record that came

sound_of : (ops : List Operation) → AreSoundOperations ops → (op : Operation) → has ops op ≡ true → IsSound op
sound_of [] sound op h = cc
sound_of (first ∷ ops) sound op h = elim (same_operation_cases first ops op h) [
  | inl same ↦ subst IsSound same sound.0
  | inr later ↦ sound_of ops sound.1 op later
]

sound_all : (journal ops : List Operation) → IsPartOf journal ops → AreSoundOperations ops → AreSoundOperations journal
sound_all [] ops part sound = tt
sound_all (first ∷ journal) ops part sound = (
  sound_of ops sound first (part first (has-first first journal)),
  sound_all journal ops (λ op h. part op (has-later first journal op h)) sound,
)

length-arrived : (journal : List Operation) (op : Operation) → length (arrived journal op) ≤ length journal + 1
length-arrived journal op =
    elim (has journal op) as (λ known. length (cond known journal (journal ++ op ∷ [])) ≤ length journal + 1) [
      | true ↦ omega arith
      | false ↦ omega (arith, length-append journal (op ∷ []))
    ]

length-all_arrived : (journal ops : List Operation) → length (all_arrived journal ops) ≤ length journal + length ops
length-all_arrived journal [] = omega arith
length-all_arrived journal (op ∷ ops) =
    omega (arith, length-arrived journal op, length-all_arrived (arrived journal op) ops)

-- a record that came is its own operations, too
pub is_sound : (journal : List Operation) → Comes journal → AreSoundOperations journal
is_sound journal came =
    sound_all journal came.ops
    (λ op h. sym (ap (λ j. has j op) came.is ∙ has-all_arrived [] came.ops op) ∙ h) came.sound

pub is_few : (journal : List Operation) (came : Comes journal) → length journal ≤ length came.ops
is_few journal came = omega (arith, ap length came.is, length-all_arrived [] came.ops)

-- ---- a record taken into an empty one

again_by : (journal : List Operation) (op : Operation) (known : Bool) → has journal op ≡ known
    → all_arrived [] journal ≡ journal
    → all_arrived [] (cond known journal (journal ++ op ∷ [])) ≡ cond known journal (journal ++ op ∷ [])
again_by journal op true is same = same
again_by journal op false is same = all_arrived-push [] journal op ∙ ap (λ (all : List Operation). arrived all op) same
    ∙ ap (λ known. cond known journal (journal ++ op ∷ [])) is

again_all : (journal ops : List Operation) → all_arrived [] journal ≡ journal
    → all_arrived [] (all_arrived journal ops) ≡ all_arrived journal ops
again_all journal [] same = same
again_all journal (op ∷ ops) same = again_all (arrived journal op) ops (again_by journal op (has journal op) refl same)

-- a record that came arrives there again as it is
pub arrives_again : (journal : List Operation) → Comes journal → all_arrived [] journal ≡ journal
arrives_again journal came = ap (all_arrived []) came.is ∙ again_all [] came.ops refl ∙ sym came.is

pub none_of : (ops : List Operation) → length ops ≡ 0 → ops ≡ []
none_of [] none = refl
none_of (op ∷ ops) none = cc
