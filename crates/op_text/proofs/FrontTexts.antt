-- Fronts as the entries of their texts.
use Rattle.std.proofs.Common.{◌≡◌, ◌≤◌, ℕ, ◌==◌, ◌&&◌, Bool, true, false, cond, max, List, [], ◌∷◌, ◌++◌, map, filter}
use Rattle.std.proofs.Common.{fold, Some, Result, Ok, Err, IfOk, IfErr, MatchResult, refl, sym, ap, ◌∙◌, subst}
use Rattle.std.proofs.Common.{append_assoc, append-nil, arith}
use Rattle.std.specs.Prelude.{T as Holds, IsUtf8}
use Rattle.std.specs.declared.cmp.Ordering.{Ordering}
use Rattle.std.specs.declared.cmp.Ordering.TheVariants.{Less, Equal, Greater}
use Rattle.std.specs.Ordering.{is_lt, is_eq, eq_by_cmp}
use Rattle.std.specs.FinMap.Entries.{below_all}
use Rattle.std.proofs.Math.Nat.{max-le, zero-max}
use Rattle.std.specs.Option.{unwrap_or}
use Rattle.std.specs.FinMap.{empty, get, get-empty, entries, entries_sorted, is_sorted, find, get-entries}
use Rattle.std.proofs.lemmas.List.{map-append}
use Rattle.std.proofs.lemmas.List.Elements.{filter-append}
use Rattle.std.proofs.lemmas.List.Sums.{fold-append}
use Rattle.serde_json.specs.Data.{Data, array, no_items, item, depth, items_depth}
use Rattle.serde_json.specs.Read.{read, max_depth}
use Rattle.serde_json.specs.Written.{compact_text, has_float, items_have_float}
use Rattle.serde_json.specs.View.{view, items_view}
use Rattle.serde_json.specs.declared.value.Value.{Value}
use Rattle.replica_core.specs.declared.front.Row.{Row}
use Rattle.replica_core.specs.Clock.{greatest}
use Rattle.replica_core.specs.Front.{Reaches, row_order, rows_exact, reach_of, raised, AreFromOneOn}
use Rattle.replica_core.specs.FrontLaws.{AreReached-empty, AreReached-raised, reach_of-raised, rows_alike}
use Rattle.lattice_core.specs.Exact.{same_by_test}
use Rattle.op_text.specs.declared.fault.OpTextFault.{OpTextFault}
use Rattle.op_text.specs.declared.fault.OpTextFault.TheVariants.{NoMemory}
use Rattle.op_text.specs.OneSpelling.{SayFront-unique}
use Rattle.op_text.specs.Front.{Entry, IsEntry, AreEntries, SpellsEntries, counts_of, SayFront, SpellsFront}
use Rattle.op_text.specs.Front.{IsFrontRefusal, entry_of, entry_of_row, entry_data, entries_data, entries_of}
use Rattle.op_text.specs.Front.{front_text}
use Rattle.op_text.proofs.Fronts.{AreEntries-push}

both_hold : (a b : Bool) → Holds (a && b) → Holds a × Holds b
both_hold true b h = (tt, h)
both_hold false b h = absurd h

less_differs : (o : Ordering) → Holds (is_lt o) → is_eq o ≡ false
less_differs Less h = refl
less_differs Equal h = absurd h
less_differs Greater h = absurd h

-- ---- entries that say a front
pub SayFront-empty : (front : Reaches) → front ≡ empty → SayFront [] front
SayFront-empty front is = record {
  reaches = λ site start. ap (λ found. unwrap_or found 0)
      (ap (λ f. get f (site, start)) is ∙ get-empty row_order (site, start));
  reached = subst AreFromOneOn (sym is) AreReached-empty;
}

one_count : (entry : Entry) (same : Bool) (reach : ℕ)
    → fold max reach (map (λ (e : Entry). e.2) (cond same (entry ∷ []) [])) ≡ cond same (max reach entry.2) reach
one_count entry true reach = refl
one_count entry false reach = refl

abbrev of_row : ℕ → ℕ → Entry → Bool
of_row site start entry = entry.0 == site && entry.1 == start

greatest-push : (entries : List Entry) (entry : Entry) (site start : ℕ) → greatest
    (counts_of (entries ++ entry ∷ []) site start) ≡ cond (of_row site start entry)
    (max (greatest (counts_of entries site start)) entry.2) (greatest (counts_of entries site start))
greatest-push entries entry site start =
    ap (λ l. greatest (map (λ (e : Entry). e.2) l)) (filter-append (of_row site start) entries (entry ∷ []))
    ∙ ap greatest
    (map-append (λ (e : Entry). e.2) (filter (of_row site start) entries) (filter (of_row site start) (entry ∷ [])))
    ∙ fold-append max 0 (counts_of entries site start)
    (map (λ (e : Entry). e.2) (filter (of_row site start) (entry ∷ [])))
    ∙ one_count entry (of_row site start entry) (greatest (counts_of entries site start))

-- one more entry raises the front
pub SayFront-push : (entries : List Entry) (entry : Entry) (front grown : Reaches) → SayFront entries front
    → grown ≡ raised front entry.0 entry.1 entry.2 → SayFront (entries ++ entry ∷ []) grown
SayFront-push entries entry front grown say grown_is = record {
  reaches = λ site start.
      ap (λ f. reach_of f site start) grown_is
      ∙ reach_of-raised front entry.0 entry.1 entry.2 site start
      ∙ ap (λ reach. cond (of_row site start entry) (max reach entry.2) reach) (say.reaches site start)
      ∙ sym (greatest-push entries entry site start);
  reached = subst AreFromOneOn (sym grown_is) (AreReached-raised front entry.0 entry.1 entry.2 say.reached);
}

-- ---- reading
pub front_is_read : (text : List ℕ) (read : List Entry) (result : Result Reaches OpTextFault) → SpellsEntries text read
    → IfOk result (SayFront read)
    → ((entries : List Entry) → SpellsEntries text entries → read ≡ entries) → IfErr result (λ fault. fault ≡ NoMemory)
    → (front : Reaches) → SpellsFront text front
    → MatchResult result (λ found. found ≡ front) (λ fault. fault ≡ NoMemory)
front_is_read text read (Ok found) spelled says only err front spells =
    SayFront-unique read found front says
    (subst (λ entries. SayFront entries front) (sym (only spells.0 spells.1)) spells.2)
front_is_read text read (Err fault) spelled says only err front spells = err

pub no_memory_refuses : {T : Type 0} (text : List ℕ) (result : Result T OpTextFault)
    → IfErr result (λ fault. fault ≡ NoMemory) → IfErr result (IsFrontRefusal text)
no_memory_refuses text (Ok found) err = tt
no_memory_refuses text (Err fault) err = subst (IsFrontRefusal text) (sym err) tt

-- ---- the entries of a front's rows say it
nothing_below : (site start : ℕ) (rows : List ((ℕ × ℕ) × ℕ)) → Holds (below_all row_order (site, start) rows)
    → counts_of (map entry_of rows) site start ≡ []
nothing_below site start [] below = refl
nothing_below site start (row ∷ rows) below =
    let parts = both_hold (is_lt (row_order (site, start) row.0)) (below_all row_order (site, start) rows) below in
    ap (λ t. map (λ (e : Entry). e.2) (cond t (entry_of row ∷ filter (of_row site start) (map entry_of rows)) (filter (of_row site start) (map entry_of rows))))
    (sym (rows_alike row.0.0 row.0.1 site start) ∙ less_differs (row_order (site, start) row.0) parts.0)
    ∙ nothing_below site start rows parts.1

found_counts : (site start : ℕ) (rows : List ((ℕ × ℕ) × ℕ)) → Holds (is_sorted row_order rows)
    → unwrap_or (find row_order (site, start) rows) 0 ≡ greatest (counts_of (map entry_of rows) site start)
found_counts site start [] sorted = refl
found_counts site start (row ∷ rows) sorted =
    let parts = both_hold (below_all row_order row.0 rows) (is_sorted row_order rows) sorted in
    elim (eq_by_cmp row_order (site, start) row.0) as (λ t. eq_by_cmp row_order (site, start) row.0 ≡ t
    → unwrap_or (cond t (Some row.1) (find row_order (site, start) rows)) 0
    ≡ greatest (map (λ (e : Entry). e.2) (cond t (entry_of row ∷ filter (of_row site start) (map entry_of rows)) (filter (of_row site start) (map entry_of rows))))) [
      | true ↦ λ e. sym (ap (λ l. fold max (max 0 row.1) l) (nothing_below site start rows (subst (λ k. Holds (below_all row_order k rows)) (sym (same_by_test rows_exact (site, start) row.0 e)) parts.0)) ∙ zero-max row.1)
      | false ↦ λ e. found_counts site start rows parts.1
    ] refl
    ∙ ap (λ t. greatest (map (λ (e : Entry). e.2) (cond t (entry_of row ∷ filter (of_row site start) (map entry_of rows)) (filter (of_row site start) (map entry_of rows))))) (rows_alike row.0.0 row.0.1 site start)

pub rows_say : (front : Reaches) → AreFromOneOn front → SayFront (entries_of front) front
rows_say front reached = record {
  reaches = λ site start. ap (λ found. unwrap_or found 0) (get-entries front (site, start))
      ∙ found_counts site start (entries front) (entries_sorted front);
  reached = reached;
}

-- ---- writing
pub entries_data-push : (values : List Value) (entries : List Entry) (value : Value) (entry : Entry)
    → items_view values ≡ entries_data entries → view value ≡ entry_data entry
    → items_view (values ++ value ∷ []) ≡ entries_data (entries ++ entry ∷ [])
entries_data-push [] [] value entry so_far is = ap (λ d. item d no_items) is
entries_data-push [] (e ∷ entries) value entry so_far is = cc
entries_data-push (v ∷ values) [] value entry so_far is = cc
entries_data-push (v ∷ values) (e ∷ entries) value entry so_far is =
    let first : view v ≡ entry_data e = cc in
    let rest : items_view values ≡ entries_data entries = cc in
    λ i. item (first i) (entries_data-push values entries value entry rest is i)

pub no_floats : (entries : List Entry) → items_have_float (entries_data entries) ≡ false
no_floats [] = refl
no_floats (entry ∷ entries) = no_floats entries

flat : (entries : List Entry) → items_depth (entries_data entries) ≤ 1
flat [] = omega arith
flat (entry ∷ entries) = max-le (omega arith) (flat entries)

-- the values are those of the rows so far, and these are left
pub record IsWritten (front : Reaches) (values : List Value) (rest : List (Row × ℕ)) : Type 0 where
  pub done : List Entry
  pub are : AreEntries (items_view values) done
  pub shown : items_view values ≡ entries_data done
  pub split : done ++ map entry_of_row rest ≡ entries_of front

rows_map : (rows : List (Row × ℕ))
    → map entry_of_row rows ≡ map entry_of (map (λ row. ((row.0.site, row.0.start), row.1)) rows)
rows_map [] = refl
rows_map (row ∷ rows) = ap (λ l. entry_of_row row ∷ l) (rows_map rows)

pub IsWritten-start : (front shown : Reaches) (values : List Value) (rows : List (Row × ℕ)) → values ≡ []
    → map (λ row. ((row.0.site, row.0.start), row.1)) rows ≡ entries shown → shown ≡ front → IsWritten front values rows
IsWritten-start front shown values rows none are is = record {
  done = [];
  are = subst (λ vs. AreEntries (items_view vs) []) (sym none) tt;
  shown = ap items_view none;
  split = rows_map rows ∙ ap (map entry_of) are ∙ ap entries_of is;
}

pub IsWritten-more : (front : Reaches) (values grown : List Value) (rest later : List (Row × ℕ)) (row : Row × ℕ)
    (value : Value) → rest ≡ row ∷ later → IsWritten front values rest
    → grown ≡ values ++ value ∷ [] → view value ≡ entry_data (entry_of_row row)
    → IsEntry (view value) (entry_of_row row) → IsWritten front grown later
IsWritten-more front values grown rest later row value first is grown_is shown spells = record {
  done = is.done ++ entry_of_row row ∷ [];
  are = subst (λ vs. AreEntries (items_view vs) (is.done ++ entry_of_row row ∷ [])) (sym grown_is)
      (AreEntries-push values is.done value (entry_of_row row) is.are spells);
  shown = ap items_view grown_is ∙ entries_data-push values is.done value (entry_of_row row) is.shown shown;
  split = append_assoc is.done (entry_of_row row ∷ []) (map entry_of_row later)
      ∙ ap (λ l. is.done ++ map entry_of_row l) (sym first) ∙ is.split;
}

all_written : (front : Reaches) (values : List Value) (rest : List (Row × ℕ)) → rest ≡ []
    → (is : IsWritten front values rest) → is.done ≡ entries_of front
all_written front values rest none is =
    sym (append-nil is.done) ∙ ap (λ l. is.done ++ map entry_of_row l) (sym none) ∙ is.split

module _ (front : Reaches) (values : List Value) (rest : List (Row × ℕ)) (text : List ℕ) (whole : Data)
    (whole_is : whole ≡ array (items_view values)) (none : rest ≡ []) (is : IsWritten front values rest) where
  pub written_text : (has_float whole ≡ false → text ≡ compact_text whole) → text ≡ front_text front
  unfolding front_text
  written_text writes =
      let shown : whole ≡ array (entries_data (entries_of front)) = whole_is ∙ ap array (is.shown ∙ ap entries_data (all_written front values rest none is)) in
      writes (ap has_float shown ∙ no_floats (entries_of front)) ∙ ap compact_text shown

  pub written_spells : AreFromOneOn front → IsUtf8 text → (depth whole ≤ max_depth → read text ≡ Some whole)
      → SpellsFront text front
  written_spells reached utf8 reads =
      let shallow : items_depth (entries_data is.done) ≤ 1 = flat is.done in
      let fits : depth whole ≤ max_depth = subst (λ d. depth d ≤ max_depth) (sym (whole_is ∙ ap array is.shown)) (omega (arith, shallow)) in (
        is.done,
        (items_view values, record { utf8 = utf8; value = reads fits ∙ ap Some whole_is }, is.are),
        subst (λ es. SayFront es front) (sym (all_written front values rest none is)) (rows_say front reached),
      )
