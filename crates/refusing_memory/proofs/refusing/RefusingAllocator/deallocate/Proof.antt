-- A block goes back to the memory that it came from.
use Rattle.std.proofs.Common.{◌≡◌, [], ◌∷◌, refl, w64}
use base.Fml.{Fml, ftrue, flft}
use base.Logic.{fst∗, never}
use mir.Val.{vunit}
use mir.MapTy.{inst_fn}
use contract.BorrowLft.{◌⊑◌, ⊑_trans}
use contract.Monad.{fact}
use contract.Running.{tables}
use denote.Builtin.{usize}
use denote.Exit.{yes}
use denote.Plain.{uint_vals, uint_Tells}
use denote.RattleType.{Valss, flat, owns}
use denote.RawPtr.{Ptr, RawPtr, block_ptr, null_ptr, in_a_block, rawptr_vals, rawptr_Tells}
use denote.Ref.{shr_vals}
use denote.Signature.{plain, types_at}
use denote.Steps.{heard, nothing}
use denote.Triple.Call.{calls_at}
use denote.Triple.Clauses.{Ended}
use denote.Triple.Table.{framed}
use denote.Triple.Walked.{Stays, stay_dropped, walk_of, Goes-dropped, ends_at}
use prog.Wp.{WpFn}
use types.Logic.{sem}
use types.ByLocal.{alloc_all, pass_all, free_all, look_at, get, through, sets, lands_as}
use types.Kit.{‵, raw, ◌⊛◌, prop, ◌$◌, ◌∵◌, !, qed, move, keep, drop, use1, learn, await, later, given, group, suffices, split, split3, join, fsplit, feq_i, regoal, done}
use types.Run.{enter, addr, fld, stop, of_opd, unit_lit, no_more, and_then, returns}
use Rattle.std.specs.Allocator.{HasLayout, owned_block}
use Rattle.std.proofs.alloc.Calls.{Al, token, seen, Gives, at_gives, Gives-goes, Gives-Gives}
use Rattle.std.proofs.raw_atomic.Walks.{proved}
use Rattle.refusing_memory.proofs.Fields.{this, args, counted, count_at, memory_at, fields}
use Rattle.refusing_memory.specs.contracts.refusing.RefusingAllocator.deallocate as f
use Rattle.refusing_memory.proofs.refusing.RefusingAllocator.deallocate.Statement.{statement}
use Rattle.refusing_memory.proofs.refusing.RefusingAllocator.deallocate.Code as code

module _ (Z : Al) where
  abbrev ended : Ended
  ended = f.ended Z.row Z.g Z.d Z.drops

  abbrev stayed : Stays ended.signature.params ended.kept
  stayed = (stay_dropped (this Z) yes, (stay_dropped (plain (λ κs. RawPtr)) yes, (stay_dropped (plain (λ κs. usize)) yes, (stay_dropped (plain (λ κs. usize)) yes, tt))))

pub deallocate_spec : {M : Type 1} → statement M
deallocate_spec 𝓤 𝓛 𝓜 𝓡 wired row laws g d drops met _ =
    let Z : Al = record { row = row; laws = laws; g = g; d = d; drops = drops } in
    let c = f.clauses row g d drops 𝓛 𝓜.mem 𝓡.returns in
    let W = walk_of 𝓛 (ended Z) (stayed Z) c in let 𝓣 = tables 𝓤 𝓛.H 𝓜 𝓡 𝓡.env in let here = inst_fn (args Z) code.function in
    let goes = Goes-dropped 𝓛 2 (plain (λ κs. usize)) yes (λ κs x w. refl) in
    proved 𝓛 (ended Z) (stayed Z) c 𝓜 𝓡
    (Goes-dropped 𝓛 2 (this Z) yes (λ κs x w. refl), (Goes-dropped 𝓛 2 (plain (λ κs. RawPtr)) yes (λ κs x w. refl), (goes, (goes, tt))))
    (f.Key.name (args Z)) here (code.unfolded 𝓤 𝓛.H 𝓜 𝓡 wired (row, tt) d drops)
    (λ κs. (shr_vals, (rawptr_vals, (uint_vals w64, (uint_vals w64, tt)))))
    (λ κs. ((λ r vs is. is.0), (rawptr_Tells, (uint_Tells w64, (uint_Tells w64, tt)))))
    (λ κs qs bounds a τ are.
    let κ = κs.0 in let ρ = κs.1.0 in let q = qs.0 in let r = a.0 in let n = a.1.1.0 in let al = a.1.1.1.0 in
    let spelled : Ptr → Valss (types_at (ended Z).signature.params κs) = λ z. (shr_vals r, (rawptr_vals z, (uint_vals w64 n, (uint_vals w64 al, tt)))) in
    let y : Ptr → W.Ghost = λ z. ((κs, qs, bounds, (r, (z, (n, (al, tt)))), spelled z), τ) in
    let Block : Ptr → Fml = owned_block (token Z r.now.memory) τ in
    let Gone = Gives Z 𝓛 𝓜.mem 𝓡.returns in
    qed 𝓛 (((‵ (flft κ q) ⊛ ‵ (flft ρ qs.1.0) ⊛ ‵ ftrue) ⊛ ‵ (owns (types_at (ended Z).signature.params κs) a (spelled a.1.0)))
    ∷ raw (fact 𝓤 (ρ ⊑ row.lives)) ∷ raw (fact 𝓤 (HasLayout τ n al)) ∷ ‵ (Block a.1.0) ∷ []) ∵
    split ! $ split3 ! $ move ! (4 ∷ 5 ∷ []) $ heard ! _ (λ le. heard ! _ (λ fits. move ! (3 ∷ []) $ fsplit ! $ fsplit ! $ keep ! (6 ∷ 1 ∷ 3 ∷ 4 ∷ []) $
    -- [the block; a `&` to the whole; the tokens]
    in_a_block ! a.1.0 Block (fst∗ 𝓤 (never 𝓤) (sem 𝓛 (token Z r.now.memory τ null_ptr))) (λ b o e.
    let call : Gone.Ghost = at_gives Z 𝓛 𝓜.mem 𝓡.returns κ q (memory_at Z r.ref_ptr) r.now.memory b o n al τ in
    regoal ! (λ z. prop (WpFn 𝓤 𝓛.H 𝓣.C 𝓣.Λ here (flat (types_at (ended Z).signature.params κs) (spelled z)) (W.post (y z)))) e refl $
    fsplit ! $ move ! (2 ∷ []) $ use1 𝓛 (‵ (counted κ (count_at Z r.ref_ptr)) ⊛ ‵ (seen Z κ (memory_at Z r.ref_ptr) r.now.memory)) (fields Z 𝓛 κ r.ref_ptr r.now) $ split ! $ drop ! $ move ! (1 ∷ 2 ∷ 0 ∷ 3 ∷ 4 ∷ []) $
    -- [room; the right to free; a `&` to the memory; the tokens]
    enter ! _ _ _ _ _ $ alloc_all ! (λ l. pass_all ! refl ((tt, tt), ((tt, tt), ((tt, record { fits = are.1.1.0.1 }), ((tt, record { fits = are.1.1.1.0.1 }), tt)))) $
    sets ! (addr ! (through ! refl (fld ! refl (stop !)))) refl (tt, tt) $
    group ! 4 $ use1 𝓛 (raw (Gone.pre call)) (Gives-goes Z 𝓛 𝓜.mem 𝓡.returns κ q (memory_at Z r.ref_ptr) r.now.memory (⊑_trans κ ρ row.lives bounds.0 le) b o n al τ fits.0 fits.1 are.1.1.0.1 are.1.1.1.0.1) $
    calls_at ! (framed 𝓤 𝓛.H 𝓜 𝓣) Gone (met.deallocate drops) call (and_then ! (get ! refl) (and_then ! (get ! refl) (and_then ! (get ! refl) (and_then ! (get ! refl) (no_more !))))) (λ v.
    use1 𝓛 (later (given (v ≡ vunit) (‵ (flft κ q)))) (Gives-Gives Z 𝓛 𝓜.mem 𝓡.returns κ q (memory_at Z r.ref_ptr) r.now.memory b o n al τ v) $ await ! tt $ learn ! (λ is_unit.
    lands_as ! is_unit refl (tt, tt) $ sets ! (of_opd ! (unit_lit !)) refl (tt, tt) $ returns ! (look_at ! 0 refl) $ free_all ! refl $
    suffices ! _ (ends_at 𝓛 (ended Z) (stayed Z) c (y (block_ptr b o)) vunit tt (tt, (tt, (tt, (tt, tt)))) (tt, (tt, (tt, (tt, tt))))) $
    feq_i ! _ (vunit ∷ []) _ refl $ nothing ! $ nothing ! $ join ! $ nothing ! $ join ! $ nothing ! $ join ! $ nothing ! $ join ! $
    nothing ! $ move ! (3 ∷ 4 ∷ 0 ∷ []) $ group ! 3 $ group ! 3 $ nothing ! $ move ! (1 ∷ 0 ∷ []) $ done !)))))))
