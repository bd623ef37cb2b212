-- What a pull that ended well leaves in a record: all that the other site had when it gave the last answer.
use Rattle.std.specs.Prelude.{◌≡◌, ◌≤◌, ℕ, Bool, true, false, List, [], ◌∷◌, ◌++◌, length, nat_lt, take}
use Rattle.std.proofs.Common.{sym, ap, ◌∙◌, subst, inl, inr}
use Rattle.std.proofs.lemmas.Bool.{ltb-false}
use Rattle.std.proofs.lemmas.List.{take_all}
use Rattle.std.specs.Ordering.{eq_by_cmp}
use Rattle.gossip_line.specs.Pull.{EndWith, PullsWell, Round, Takes, TakesAll, ops_in}
use Rattle.gossip_line.specs.Session.{Moment}
use Rattle.gossip_line.specs.declared.pull.Pulled.{Pulled}
use Rattle.lattice_core.specs.Exact.{same_by_test}
use Rattle.replica_core.specs.Front.{IsFront, Reaches}
use Rattle.replica_core.specs.Journal.{has, has_stamp}
use Rattle.replica_core.specs.JournalLaws.{IsPartOf, has_one}
use Rattle.replica_core.specs.Missing.{IsMissing}
use Rattle.replica_core.specs.Passing.{AreTwins, held_or_lacked}
use Rattle.review_ops.specs.Operation.{Operation}
use Rattle.review_ops.specs.Timestamp.{Timestamp, timestamp_cmp, timestamps_exact}
use Rattle.site_port.specs.Sinks.{Offer, Uptake, fronts, hands, reached, took}

-- the answer of a round is that of a site with this journal: the first 256 of the operations that the front lacks, and
-- whether others are left
pub record IsAnsweredFrom (journal : List Operation) (round : Round) : Type 0 where
  pub lacked : List Operation
  pub missing : IsMissing journal round.front lacked
  pub ops : ops_in round.lines ≡ take 256 lacked
  pub more : round.more ≡ nat_lt 256 (length lacked)

-- sequence numbers begin at 1
abbrev pub AreNumbered : List Operation → Type 0
AreNumbered journal = (op : Operation) → has journal op ≡ true → 1 ≤ op.stamp.seq

-- no two operations of the journals share site, start and sequence number without being one
abbrev pub ShareNoTwins : List Operation → List Operation → Type 0
ShareNoTwins journal other =
    (op twin : Operation) → has journal op ≡ true → has other twin ≡ true → AreTwins op.stamp twin.stamp → op ≡ twin

-- the last of a pull's rounds
pub record IsLastOf (last : Round) (rounds : List Round) : Type 0 where
  pub earlier : List Round
  pub whole : rounds ≡ earlier ++ last ∷ []

-- an operation of the stamp is a twin of any that has it
twins_by_stamp : (stamp other : Timestamp) → eq_by_cmp timestamp_cmp other stamp ≡ true → AreTwins stamp other
twins_by_stamp stamp other tested =
    let same : stamp ≡ other = sym (same_by_test timestamps_exact other stamp tested) in
    record { site = ap (λ (s : Timestamp). s.site) same; start = ap (λ (s : Timestamp). s.start) same; seq = ap (λ (s : Timestamp). s.seq) same }

last_says : (earlier : List Round) (last : Round) (more : Bool) → EndWith (earlier ++ last ∷ []) more → last.more ≡ more
last_says [] last more ends = ends
last_says (round ∷ []) last more ends = ends.1
last_says (round ∷ next ∷ rounds) last more ends = last_says (next ∷ rounds) last more ends.1

module _ {K : Type 0} (sinks : K → Offer → Uptake → K → Type 0) (held_by : K → List Operation) where
  -- a sink has a record: its front is that of the record, which keeps what it has, and has an operation with the stamp
  -- of each that was taken
  pub record KeepsRecord : Type 0 where
    pub says : (old mid : K) (front : Reaches) → sinks old fronts (reached front) mid → IsFront (held_by mid) front
    pub grows : (old new : K) (ops : List Operation) → sinks old (hands ops) took new
        → IsPartOf (held_by old) (held_by new)
    pub takes : (old new : K) (ops : List Operation) → sinks old (hands ops) took new
        → (op : Operation) → has ops op ≡ true → has_stamp (held_by new) op.stamp ≡ true

  -- the last of the rounds was taken after the others
  last_taken : (old new : K) (earlier : List Round) (last : Round) → TakesAll sinks old (earlier ++ last ∷ []) new
      → (mid : K) × Takes sinks mid last new
  last_taken old new [] last all = (old, subst (λ now. Takes sinks old last now) (sym all.2) all.1)
  last_taken old new (round ∷ rounds) last all = last_taken all.0 new rounds last all.2

  taken_over : KeepsRecord → (peer : List Operation) (old new : K) (last : Round) → Takes sinks old last new
      → IsAnsweredFrom peer last → last.more ≡ false → AreNumbered peer → ShareNoTwins peer (held_by new)
      → IsPartOf peer (held_by new)
  taken_over keeps peer old new last takes answered done numbered no_twins op h =
      let mid : K = takes.0 in
      let ops : List Operation = ops_in last.lines in
      let lacked = answered.lacked in
      let whole : take 256 lacked ≡ lacked = take_all 256 lacked (ltb-false 256 (length lacked) (sym answered.more ∙ done)) in
      elim (held_or_lacked (held_by mid) peer lacked last.front (keeps.says old mid last.front takes.1) answered.missing numbered
      (λ one twin held there twins. no_twins one twin held (keeps.grows mid new ops takes.2 twin there) twins) op h) [
        | inl held ↦ keeps.grows mid new ops takes.2 op held
        | inr lacked_there ↦
            let is_taken : has ops op ≡ true = ap (λ l. has l op) (answered.ops ∙ whole) ∙ lacked_there in
            let twin = has_one (λ other. eq_by_cmp timestamp_cmp other.stamp op.stamp) (held_by new) (keeps.takes mid new ops takes.2 op is_taken) in
            ap (has (held_by new)) (no_twins op twin.0 h twin.1 (twins_by_stamp op.stamp twin.0.stamp twin.2)) ∙ twin.1
      ]

  -- a pull that ended well, whose last answer reported that nothing is left, leaves all that this answer's site had
  pub all_passed_on : KeepsRecord → (limit most : ℕ) (before after : Moment K) (pulled : Pulled)
      (pull : PullsWell sinks limit most before after pulled) → pulled.more ≡ false → (last : Round)
      → IsLastOf last pull.rounds → (peer : List Operation) → IsAnsweredFrom peer last → AreNumbered peer
      → ShareNoTwins peer (held_by after.port) → IsPartOf peer (held_by after.port)
  all_passed_on keeps limit most before after pulled pull done last is peer answered numbered no_twins =
      let is_done : last.more ≡ false = last_says is.earlier last pulled.more (subst (λ all. EndWith all pulled.more) is.whole pull.ends) ∙ done in
      let taken = last_taken before.port pull.mid.port is.earlier last (subst (λ all. TakesAll sinks before.port all pull.mid.port) is.whole pull.pull.taken) in
      let takes : Takes sinks taken.0 last after.port = subst (λ now. Takes sinks taken.0 last now) (sym pull.same.0) taken.1 in
      taken_over keeps peer taken.0 after.port last takes answered is_done numbered no_twins
