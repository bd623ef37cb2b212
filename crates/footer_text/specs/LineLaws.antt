-- A line has one value at most.
use Rattle.std.specs.Prelude.{◌≡◌, ℕ, List, [], ◌∷◌, ◌++◌, map, codes}
use Rattle.std.proofs.Common.{refl, sym, ap, ◌∙◌, subst}
use Rattle.std.specs.Char.{to_ascii_lowercase}
use Rattle.std.specs.List.{AllByRecursion}
use Rattle.footer_text.specs.Cuts.{Lacks, cut_first}
use Rattle.footer_text.specs.Lines.{IsBlank, BeginsBare, EndsBare, HasBare, IsFooter}

-- ---- the word

word_lacks_colon : (word lower : List ℕ) → map to_ascii_lowercase word ≡ lower → Lacks 58 lower → Lacks 58 word
word_lacks_colon [] lower e p = tt
word_lacks_colon (b ∷ word) [] e p = cc
word_lacks_colon (b ∷ word) (c ∷ lower) e p =
    let head : to_ascii_lowercase b ≡ c = cc in
    let tail : map to_ascii_lowercase word ≡ lower = cc in
    (λ is. p.0 (sym head ∙ ap to_ascii_lowercase is), word_lacks_colon word lower tail p.1)

footer_word_lacks_colon : (word : List ℕ) → map to_ascii_lowercase word ≡ codes "depends-on" → Lacks 58 word
footer_word_lacks_colon word e =
    word_lacks_colon word (codes "depends-on") e ((λ k. cc), ((λ k. cc), ((λ k. cc), ((λ k. cc), ((λ k. cc), ((λ k. cc), ((λ k. cc), ((λ k. cc), ((λ k. cc), ((λ k. cc), tt))))))))))

-- before the first colon of a footer is the word
pub word_first : (line word rest value : List ℕ) → line ≡ word ++ 58 ∷ rest → Lacks 58 word → IsFooter line value
    → map to_ascii_lowercase word ≡ codes "depends-on"
word_first line word rest value e lacks footer =
    let same = cut_first 58 word rest footer.word footer.rest (sym e ∙ footer.whole) lacks (footer_word_lacks_colon footer.word footer.is_word) in
    ap (map to_ascii_lowercase) same.0 ∙ footer.is_word

-- ---- the value

EndsBare-tail : (b : ℕ) (rest : List ℕ) → EndsBare (b ∷ rest) → EndsBare rest
EndsBare-tail b rest bare c front e = bare c (b ∷ front) (ap (λ l. b ∷ l) e)

-- blanks that don't end in a blank are none
no_blanks : (b : ℕ) (rest : List ℕ) → AllByRecursion IsBlank (b ∷ rest) → EndsBare (b ∷ rest) → ⊥
no_blanks b [] blank bare = bare b [] refl blank.0
no_blanks b (c ∷ rest) blank bare = no_blanks c rest blank.1 (EndsBare-tail b (c ∷ rest) bare)

blanks_front : (xs ys : List ℕ) → AllByRecursion IsBlank (xs ++ ys) → AllByRecursion IsBlank xs
blanks_front [] ys p = tt
blanks_front (x ∷ xs) ys p = (p.0, blanks_front xs ys p.1)

-- the ends agree
value_same : (v a w b : List ℕ) → v ++ a ≡ w ++ b → AllByRecursion IsBlank a → AllByRecursion IsBlank b → EndsBare v
    → EndsBare w → v ≡ w
value_same [] a [] b e p q bare bare' = refl
value_same [] a (c ∷ w) b e p q bare bare' =
    absurd (no_blanks c w (blanks_front (c ∷ w) b (subst (AllByRecursion IsBlank) e p)) bare')
value_same (c ∷ v) a [] b e p q bare bare' =
    absurd (no_blanks c v (blanks_front (c ∷ v) a (subst (AllByRecursion IsBlank) (sym e) q)) bare)
value_same (c ∷ v) a (d ∷ w) b e p q bare bare' =
    let tail : v ++ a ≡ w ++ b = cc in
    let rest = value_same v a w b tail p q (EndsBare-tail c v bare) (EndsBare-tail d w bare') in
    cc

-- what begins bare and, but for blanks at its end, begins with a blank, is empty
blank_first : (b : ℕ) (rest v a : List ℕ) → v ++ a ≡ b ∷ rest → IsBlank b → BeginsBare v → v ≡ []
blank_first b rest [] a e blank bare = refl
blank_first b rest (c ∷ v) a e blank bare = let same : c ≡ b = cc in absurd
    (bare c v refl (subst IsBlank (sym same) blank))

-- and so is what comes further on, where the whole is blank
all_blank_value : (before v a : List ℕ) → AllByRecursion IsBlank (before ++ (v ++ a)) → EndsBare v → v ≡ []
all_blank_value [] [] a p bare = refl
all_blank_value [] (c ∷ v) a p bare = absurd (no_blanks c v (blanks_front (c ∷ v) a p) bare)
all_blank_value (b ∷ before) v a p bare = all_blank_value before v a p.1 bare

bare_same : (before v a before' w b : List ℕ) → before ++ (v ++ a) ≡ before' ++ (w ++ b) → AllByRecursion IsBlank before
    → AllByRecursion IsBlank before'
    → AllByRecursion IsBlank a → AllByRecursion IsBlank b → BeginsBare v → BeginsBare w → EndsBare v → EndsBare w
    → v ≡ w
bare_same [] v a [] w b e p p' q q' begins begins' ends ends' = value_same v a w b e q q' ends ends'
bare_same [] v a (c ∷ before') w b e p p' q q' begins begins' ends ends' =
    let none = blank_first c (before' ++ (w ++ b)) v a e p'.0 begins in
    let blank = subst (AllByRecursion IsBlank) (sym (ap (λ l. l ++ a) none) ∙ e) q in
    none ∙ sym (all_blank_value before' w b blank.1 ends')
bare_same (c ∷ before) v a [] w b e p p' q q' begins begins' ends ends' =
    let none = blank_first c (before ++ (v ++ a)) w b (sym e) p.0 begins' in
    let blank = subst (AllByRecursion IsBlank) (sym (ap (λ l. l ++ b) none) ∙ sym e) q' in
    all_blank_value before v a blank.1 ends ∙ sym none
bare_same (c ∷ before) v a (d ∷ before') w b e p p' q q' begins begins' ends ends' =
    let tail : before ++ (v ++ a) ≡ before' ++ (w ++ b) = cc in
    bare_same before v a before' w b tail p.1 p'.1 q q' begins begins' ends ends'

-- between blanks is one value
pub HasBare-same : (text v w : List ℕ) → HasBare text v → HasBare text w → v ≡ w
HasBare-same text v w m n =
    bare_same m.before v m.after n.before w n.after (sym m.whole ∙ n.whole) m.blank_before n.blank_before m.blank_after n.blank_after m.begins n.begins m.ends n.ends

-- a line has one value at most
pub IsFooter-same : (line v w : List ℕ) → IsFooter line v → IsFooter line w → v ≡ w
IsFooter-same line v w m n =
    let same = cut_first 58 m.word m.rest n.word n.rest (sym m.whole ∙ n.whole) (footer_word_lacks_colon m.word m.is_word) (footer_word_lacks_colon n.word n.is_word) in
    HasBare-same m.rest v w m.has (subst (λ r. HasBare r w) (sym same.1) n.has)
