-- A request that is granted is the memory's to answer; another one is refused.
use Rattle.std.proofs.Common.{Bool, true, false, Ok, Err, [], ◌∷◌, refl, ap, w64}
use base.Fml.{ftrue, flft}
use base.Logic.{id⊢}
use contract.BorrowLft.{◌⊑◌, ⊑_trans}
use contract.Monad.{fact}
use contract.Running.{tables}
use denote.Builtin.{usize, bool}
use denote.Exit.{yes}
use denote.Plain.{uint_vals, uint_Tells}
use denote.RattleType.{owns}
use denote.RawPtr.{block_ptr}
use denote.Ref.{shr_vals}
use denote.Signature.{plain, types_at}
use denote.Steps.{heard, nothing, only}
use denote.Triple.Call.{calls_at}
use denote.Triple.Clauses.{Ended, lasts}
use denote.Triple.Spec.{triple_of}
use denote.Triple.Table.{framed}
use denote.Triple.Walked.{Stays, stay_dropped, walk_of, Goes-dropped, ends_at}
use mir.MapTy.{inst_fn}
use mir.Val.{Val, vptr}
use types.ByLocal.{alloc_all, pass_all, free_all, look_at, get, through, sets, lands_as, env}
use types.Kit.{‵, raw, ◌⊛◌, some, later, prop, at_ret, Sq, ◌$◌, ◌∵◌, !, qed, move, keep, drop, use0, use1, use2, pick, await, group, suffices, split, split3, join, fsplit, fjoin, feq_i, feq_l, done}
use types.Part.{agg}
use types.Run.{enter, addr, fld, stop, lit, no_more, and_then, first, branches, skips, exec, returns, returns_within}
use Rattle.std.specs.Allocator.{HasLayout, block_if_ok}
use Rattle.std.proofs.VecSteps.Shapes.{after}
use Rattle.std.proofs.alloc.Calls.{Al, token, seen, Answer, answer_val, Answer-typed, Answer-Ok, Answer-err, Takes, at_takes, Takes-goes, Takes-gives, Answered, answers}
use Rattle.std.proofs.raw_atomic.Walks.{proved}
use Rattle.refusing_memory.proofs.Fields.{this, args, counted, count_at, memory_at, fields}
use Rattle.refusing_memory.specs.contracts.refusing.is_granted as asks
use Rattle.refusing_memory.proofs.refusing.is_granted.Met.{met as asks_met}
use Rattle.refusing_memory.specs.contracts.refusing.RefusingAllocator.allocate as f
use Rattle.refusing_memory.proofs.refusing.RefusingAllocator.allocate.Statement.{statement}
use Rattle.refusing_memory.proofs.refusing.RefusingAllocator.allocate.Code as code

module _ (Z : Al) where
  abbrev ended : Ended
  ended = f.ended Z.row Z.g Z.d Z.drops

  abbrev stayed : Stays ended.signature.params ended.kept
  stayed = (stay_dropped (this Z) yes, (stay_dropped (plain (λ κs. usize)) yes, (stay_dropped (plain (λ κs. usize)) yes, tt)))

pub allocate_spec : {M : Type 1} → statement M
allocate_spec 𝓤 𝓛 𝓜 𝓡 wired row laws g d drops met _ =
    let Z : Al = record { row = row; laws = laws; g = g; d = d; drops = drops } in
    let c = f.clauses row g d drops 𝓛 𝓜.mem 𝓡.returns in
    let W = walk_of 𝓛 (ended Z) (stayed Z) c in let 𝓣 = tables 𝓤 𝓛.H 𝓜 𝓡 𝓡.env in let here = inst_fn (args Z) code.function in
    let goes = Goes-dropped 𝓛 2 (plain (λ κs. usize)) yes (λ κs x w. refl) in
    proved 𝓛 (ended Z) (stayed Z) c 𝓜 𝓡 (Goes-dropped 𝓛 2 (this Z) yes (λ κs x w. refl), (goes, (goes, tt)))
    (f.Key.name (args Z)) here (code.unfolded 𝓤 𝓛.H 𝓜 𝓡 wired (row, tt) d drops)
    (λ κs. (shr_vals, (uint_vals w64, (uint_vals w64, tt)))) (λ κs. ((λ r vs is. is.0), (uint_Tells w64, (uint_Tells w64, tt))))
    (λ κs qs bounds a τ are.
    let κ = κs.0 in let ρ = κs.1.0 in let q = qs.0 in let r = a.0 in let n = a.1.0 in let al = a.1.1.0 in
    let count = count_at Z r.ref_ptr in let memory = memory_at Z r.ref_ptr in let h = r.now.memory in
    let y : W.Ghost = ((κs, qs, bounds, a, (shr_vals r, (uint_vals w64 n, (uint_vals w64 al, tt)))), τ) in
    let G = triple_of 𝓛 asks.signature (asks.spec 𝓛 𝓜.mem 𝓡.returns) in
    let ask : G.Ghost = (((κ, tt), (q, tt), tt, (record { ref_ptr = count; now = record { value = tt } }, tt), (vptr count.0 count.1 ∷ [], tt)), tt) in
    let Taken = Takes Z 𝓛 𝓜.mem 𝓡.returns in let take : Taken.Ghost = at_takes Z 𝓛 𝓜.mem 𝓡.returns κ q memory h n al τ in
    let out : (v : Val) (answer : Answer.Denot) → Sq 𝓛 (‵ (Answer.own_val answer (v ∷ [])) ∷ ‵ (block_if_ok (token Z h) τ answer) ∷ ‵ (flft κ q) ∷ ‵ (flft ρ qs.1.0) ∷ []) (prop (W.post y v)) = λ v answer.
    suffices ! _ (ends_at 𝓛 (ended Z) (stayed Z) c y v answer (tt, (tt, (tt, tt))) (tt, (tt, (tt, tt)))) $
    nothing ! $ nothing ! $ join ! $ nothing ! $ join ! $ nothing ! $ join ! $ nothing ! $ move ! (4 ∷ 5 ∷ 0 ∷ []) $ group ! 3 $ group ! 3 $ done ! in
    qed 𝓛 (((‵ (flft κ q) ⊛ ‵ (flft ρ qs.1.0) ⊛ ‵ ftrue) ⊛ ‵ (owns (types_at (ended Z).signature.params κs) a y.0.4))
    ∷ raw (fact 𝓤 (ρ ⊑ row.lives)) ∷ raw (fact 𝓤 (HasLayout τ n al)) ∷ []) ∵
    split ! $ split3 ! $ move ! (4 ∷ 5 ∷ []) $ heard ! _ (λ le. heard ! _ (λ fits. move ! (3 ∷ []) $ fsplit ! $ fsplit ! $ keep ! (1 ∷ 3 ∷ 4 ∷ []) $
    use1 𝓛 (‵ (counted κ count) ⊛ ‵ (seen Z κ memory h)) (fields Z 𝓛 κ r.ref_ptr r.now) $ split ! $ move ! (0 ∷ 2 ∷ []) $
    -- [a `&` to the count; a token; a `&` to the memory; the other token]
    enter ! _ _ _ _ _ $ alloc_all ! (λ l. pass_all ! refl ((tt, tt), ((tt, record { fits = are.1.0.1 }), ((tt, record { fits = are.1.1.0.1 }), tt))) $
    sets ! (addr ! (through ! refl (fld ! refl (stop !)))) refl (tt, tt) $
    feq_i ! _ _ _ refl $ fjoin ! $ nothing ! $ move ! (1 ∷ 0 ∷ []) $ join ! $ nothing ! $ move ! (2 ∷ 0 ∷ []) $ join ! $ join ! $ nothing ! $ move ! (1 ∷ 0 ∷ []) $
    use2 𝓛 (raw (G.pre ask)) (id⊢ 𝓤 _) $
    calls_at ! (framed 𝓤 𝓛.H 𝓜 𝓣) G (asks_met 𝓤 𝓛 𝓜 𝓡 (code.calls-refusing_memory::refusing::is_granted 𝓡.env wired)) ask (and_then ! (get ! refl) (no_more !)) (λ u.
    use1 𝓛 (later (some (λ (granted : Bool). ((‵ (flft κ q) ⊛ ‵ ftrue) ⊛ ‵ (bool.own_val granted (u ∷ []))) ⊛
    some (λ (ws : Unit {0} × Unit {0}). ‵ (lasts asks.ended (κ, tt) ask.0.3 ws) ⊛ ‵ ftrue)))) (id⊢ 𝓤 _) $ await ! tt $ pick ! (λ granted. split ! $ split ! $ split ! $ move ! (2 ∷ []) $ feq_l ! (λ same.
    lands_as ! (ap only same) refl (tt, tt) $ move ! (1 ∷ []) $ drop ! $ move ! (1 ∷ []) $ drop ! $
    -- [a token; a `&` to the memory; the other token]
    first ! $ branches ! (get ! refl)
    (λ yes. sets ! (addr ! (through ! refl (fld ! refl (stop !)))) refl (tt, tt) $ move ! (1 ∷ 0 ∷ []) $
    use2 𝓛 (raw (Taken.pre take)) (Takes-goes Z 𝓛 𝓜.mem 𝓡.returns κ q memory h (⊑_trans κ ρ row.lives bounds.0 le) n al τ fits.0 fits.1 are.1.0.1 are.1.1.0.1) $
    calls_at ! (framed 𝓤 𝓛.H 𝓜 𝓣) Taken (met.allocate drops) take (and_then ! (get ! refl) (and_then ! (get ! refl) (and_then ! (get ! refl) (no_more !)))) (λ v.
    use1 𝓛 (later (raw (Answered Z 𝓛 𝓜.mem 𝓡.returns h τ v) ⊛ ‵ (flft κ q))) (Takes-gives Z 𝓛 𝓜.mem 𝓡.returns κ q memory h n al τ v) $ await ! tt $ split ! $
    answers Z ! 𝓜.mem 𝓡.returns h τ v
    (λ b o is. fjoin ! $ lands_as ! is refl (Answer-typed true b o) $ returns_within ! (W.post y) refl (look_at ! 0 refl) $ free_all ! refl $
    use0 𝓛 (‵ (Answer.own_val (Ok (block_ptr b o)) (answer_val true b o ∷ []))) (Answer-Ok 𝓛 b o) $ out (answer_val true b o) (Ok (block_ptr b o)))
    (λ is. nothing ! $ lands_as ! is refl (Answer-typed false 0 0) $ returns_within ! (W.post y) refl (look_at ! 0 refl) $ free_all ! refl $
    use0 𝓛 (‵ (Answer.own_val (Err (record {})) (answer_val false 0 0 ∷ []))) (Answer-err 𝓛) $ out (answer_val false 0 0) (Err (record {})))))
    (λ no. skips ! $ exec ! 𝓣.C 𝓣.Λ (env here.locals l) (after 3 here.body) (at_ret _ (W.post y)) $
    sets ! (agg ! (no_more !)) refl (tt, tt) $ sets ! (agg ! (and_then ! (lit ! tt) (and_then ! (get ! refl) (no_more !)))) refl (Answer-typed false 0 0) $
    returns ! (look_at ! 0 refl) $ free_all ! refl $ keep ! (0 ∷ 2 ∷ []) $ nothing ! $
    use0 𝓛 (‵ (Answer.own_val (Err (record {})) (answer_val false 0 0 ∷ []))) (Answer-err 𝓛) $ out (answer_val false 0 0) (Err (record {}))))))))))
