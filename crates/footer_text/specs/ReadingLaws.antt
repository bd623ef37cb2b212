-- A value names one change at most.
use Rattle.std.specs.Prelude.{◌≡◌, ◌≢◌, ◌≤◌, ℕ, true, List, [], ◌∷◌, ◌++◌, length, Contains}
use Rattle.std.proofs.Common.{refl, sym, ap, ◌∙◌, subst, inl, inr, append_assoc, append-nil, arith, lit<}
use Rattle.std.specs.Str.{all_ascii_digits}
use Rattle.std.specs.Str.Parse.{digits_value}
use Rattle.std.proofs.lemmas.Str.Parse.{tells_all_ascii_digits}
use Rattle.std.proofs.lemmas.List.{append_cancel_left}
use Rattle.std.proofs.lemmas.List.Elements.{Contains-append_right}
use Rattle.lattice_core.specs.MemberLaws.{Contains-first}
use Rattle.footer_text.specs.Cuts.{Lacks, Lacks-append, Lacks-middle, cut_first, cut_last, digits_lack}
use Rattle.footer_text.specs.Readings.{SpellsChange, IsPatch, IsTail, IsNumberAndTail, IsForm, ReadsAs, NamesChange}

-- ---- a number and its tail

-- with no `/` the text is the number
pub number_alone : (text : List ℕ) (change : ℕ) → Lacks 47 text → IsNumberAndTail text change → SpellsChange text change
number_alone text change lacks n =
    elim n.is_tail [
      | inl none ↦ subst (λ ds. SpellsChange ds change)
          (sym (n.whole ∙ ap (λ t. n.digits ++ t) none ∙ append-nil n.digits)) n.spells
      | inr patch ↦ absurd
          (Lacks-middle 47 n.digits patch.0 (subst (Lacks 47) (n.whole ∙ ap (λ t. n.digits ++ t) patch.2) lacks))
    ]

-- the first `/` ends the number
pub number_before_patch : (text digits patch : List ℕ) → text ≡ digits ++ 47 ∷ patch → (change : ℕ) → Lacks 47 digits
    → IsNumberAndTail text change
    → SpellsChange digits change × IsPatch patch
number_before_patch text digits patch whole change lacks n =
    elim n.is_tail [
      | inl none ↦
          let alone = n.whole ∙ ap (λ t. n.digits ++ t) none ∙ append-nil n.digits in
          let slash : Lacks 47 (digits ++ 47 ∷ patch) = subst (Lacks 47) (sym alone ∙ whole) (digits_lack 47 n.digits (lit< tt) n.spells.is_numeral.all) in
          absurd (Lacks-middle 47 digits patch slash)
      | inr found ↦
          let same = cut_first 47 digits patch n.digits found.0 (sym whole ∙ n.whole ∙ ap (λ t. n.digits ++ t) found.2) lacks (digits_lack 47 n.digits (lit< tt) n.spells.is_numeral.all) in
          (subst (λ ds. SpellsChange ds change) (sym same.0) n.spells, subst IsPatch (sym same.1) found.1)
    ]

pub IsNumberAndTail-same : (text : List ℕ) (j k : ℕ) → IsNumberAndTail text j → IsNumberAndTail text k → j ≡ k
IsNumberAndTail-same text j k m n =
    let lacks = digits_lack 47 m.digits (lit< tt) m.spells.is_numeral.all in
    elim m.is_tail [
      | inl none ↦
          let alone = m.whole ∙ ap (λ t. m.digits ++ t) none ∙ append-nil m.digits in
          let other = number_alone text k (subst (Lacks 47) (sym alone) lacks) n in
          sym m.spells.is_value ∙ subst (λ ds. digits_value 10 ds ≡ k) alone other.is_value
      | inr found ↦
          let other = number_before_patch text m.digits found.0 (m.whole ∙ ap (λ t. m.digits ++ t) found.2) k lacks n in
          sym m.spells.is_value ∙ other.0.is_value
    ]

patch_lacks_plus : (patch : List ℕ) → IsPatch patch → Lacks 43 patch
patch_lacks_plus patch p =
    elim p [
      | inl none ↦ subst (Lacks 43) (sym none) tt
      | inr more ↦ elim more [
        | inl numeral ↦ digits_lack 43 patch (lit< tt) numeral.all
        | inr found ↦ subst (Lacks 43) (sym found.2)
            (Lacks-append 43 found.0 (47 ∷ []) (digits_lack 43 found.0 (lit< tt) found.1.all) ((λ e. cc), tt))
      ]
    ]

tail_lacks_plus : (tail : List ℕ) → IsTail tail → Lacks 43 tail
tail_lacks_plus tail t =
    elim t [
      | inl none ↦ subst (Lacks 43) (sym none) tt
      | inr found ↦ subst (Lacks 43) (sym found.2) ((λ e. cc), patch_lacks_plus found.0 found.1)
    ]

-- no `+` is in a number and its tail
pub number_lacks_plus : (number : List ℕ) (change : ℕ) → IsNumberAndTail number change → Lacks 43 number
number_lacks_plus number change n =
    subst (Lacks 43) (sym n.whole) (Lacks-append 43 n.digits n.tail (digits_lack 43 n.digits (lit< tt) n.spells.is_numeral.all) (tail_lacks_plus n.tail n.is_tail))

first_is_digit : (digits tail : List ℕ) (d : ℕ) (rest : List ℕ) → all_ascii_digits digits ≡ true → 1 ≤ length digits
    → d ∷ rest ≡ digits ++ tail → (48 ≤ d) × (d ≤ 57)
first_is_digit [] tail d rest p some e = absurd (omega arith)
first_is_digit (x ∷ digits) tail d rest p some e =
    let range = (tells_all_ascii_digits.parts x digits p).0 in
    let same : d ≡ x = cc in
    rw same range

-- a number begins with a digit
pub number_begins : (number : List ℕ) (change d : ℕ) (rest : List ℕ) → number ≡ d ∷ rest → IsNumberAndTail number change
    → (48 ≤ d) × (d ≤ 57)
number_begins number change d rest e n =
    first_is_digit n.digits n.tail d rest n.spells.is_numeral.all n.spells.is_numeral.some (sym e ∙ n.whole)

-- ---- what precedes the number

-- a text with the `+` of `/+/` apart
pub parted : (project number : List ℕ) → project ++ 47 ∷ 43 ∷ 47 ∷ number ≡ (project ++ 47 ∷ []) ++ 43 ∷ 47 ∷ number
parted project number = sym (append_assoc project (47 ∷ []) (43 ∷ 47 ∷ number))

tail_same : (c : ℕ) (xs ys : List ℕ) → c ∷ xs ≡ c ∷ ys → xs ≡ ys
tail_same c xs ys e = cc

-- no `/+/` is in a number and its tail
pub IsNumberAndTail-no_slash : (number : List ℕ) (change : ℕ) (before after : List ℕ) → IsNumberAndTail number change
    → number ≢ before ++ 47 ∷ 43 ∷ 47 ∷ after
IsNumberAndTail-no_slash number change before after n e =
    Lacks-middle 43 (before ++ 47 ∷ []) (47 ∷ after)
    (subst (Lacks 43) (e ∙ parted before after) (number_lacks_plus number change n))

-- so the last `/+/` ends a project
project_same : (p q m n : List ℕ) → (p ++ 47 ∷ 43 ∷ 47 ∷ []) ++ m ≡ (q ++ 47 ∷ 43 ∷ 47 ∷ []) ++ n → Lacks 43 m
    → Lacks 43 n → m ≡ n
project_same p q m n e lacks lacks' =
    let apart = λ (r t : List ℕ). append_assoc r (47 ∷ 43 ∷ 47 ∷ []) t ∙ parted r t in
    let same = cut_last 43 (p ++ 47 ∷ []) (47 ∷ m) (q ++ 47 ∷ []) (47 ∷ n) (sym (apart p m) ∙ e ∙ apart q n) ((λ k. cc), lacks) ((λ k. cc), lacks') in
    tail_same 47 m n same.1

-- the text determines what precedes a number
module _ (f m g n text : List ℕ) (j k : ℕ) (is_number : IsNumberAndTail m j) (is_number' : IsNumberAndTail n k)
    (left : text ≡ f ++ m) (right : text ≡ g ++ n) where
  from_nothing : f ≡ [] → IsForm g → m ≡ n
  from_nothing none form =
      let alone = left ∙ ap (λ l. l ++ m) none in
      elim form [
        | inl none' ↦ sym alone ∙ right ∙ ap (λ l. l ++ n) none'
        | inr more ↦ elim more [
          | inl hash ↦ let digit = number_begins m j 35 (47 ∷ 99 ∷ 47 ∷ n) (sym alone ∙ right ∙ ap (λ l. l ++ n) hash) is_number in absurd (omega arith)
          | inr found ↦ let digit = number_begins m j 99 (47 ∷ ((found.0 ++ 47 ∷ 43 ∷ 47 ∷ []) ++ n)) (sym alone ∙ right ∙ ap (λ l. l ++ n) found.2) is_number in absurd (omega arith)
        ]
      ]

  from_hash : f ≡ 35 ∷ 47 ∷ 99 ∷ 47 ∷ [] → IsForm g → m ≡ n
  from_hash hash form =
      let begins = left ∙ ap (λ l. l ++ m) hash in
      elim form [
        | inl none ↦ let digit = number_begins n k 35 (47 ∷ 99 ∷ 47 ∷ m) (sym (sym begins ∙ right ∙ ap (λ l. l ++ n) none)) is_number' in absurd (omega arith)
        | inr more ↦ elim more [
          | inl hash' ↦ let both : 35 ∷ 47 ∷ 99 ∷ 47 ∷ m ≡ 35 ∷ 47 ∷ 99 ∷ 47 ∷ n = sym begins ∙ right ∙ ap (λ l. l ++ n) hash' in cc
          | inr found ↦ let bad : 35 ∷ 47 ∷ 99 ∷ 47 ∷ m ≡ 99 ∷ 47 ∷ ((found.0 ++ 47 ∷ 43 ∷ 47 ∷ []) ++ n) = sym begins ∙ right ∙ ap (λ l. l ++ n) found.2 in absurd cc
        ]
      ]

  from_project : (p : List ℕ) → f ≡ 99 ∷ 47 ∷ (p ++ 47 ∷ 43 ∷ 47 ∷ []) → IsForm g → m ≡ n
  from_project p project form =
      let begins = left ∙ ap (λ l. l ++ m) project in
      elim form [
        | inl none ↦ let digit = number_begins n k 99 (47 ∷ ((p ++ 47 ∷ 43 ∷ 47 ∷ []) ++ m)) (sym (sym begins ∙ right ∙ ap (λ l. l ++ n) none)) is_number' in absurd (omega arith)
        | inr more ↦ elim more [
          | inl hash ↦ let bad : 99 ∷ 47 ∷ ((p ++ 47 ∷ 43 ∷ 47 ∷ []) ++ m) ≡ 35 ∷ 47 ∷ 99 ∷ 47 ∷ n = sym begins ∙ right ∙ ap (λ l. l ++ n) hash in absurd cc
          | inr found ↦
              let both : 99 ∷ 47 ∷ ((p ++ 47 ∷ 43 ∷ 47 ∷ []) ++ m) ≡ 99 ∷ 47 ∷ ((found.0 ++ 47 ∷ 43 ∷ 47 ∷ []) ++ n) = sym begins ∙ right ∙ ap (λ l. l ++ n) found.2 in
              let tails : (p ++ 47 ∷ 43 ∷ 47 ∷ []) ++ m ≡ (found.0 ++ 47 ∷ 43 ∷ 47 ∷ []) ++ n = cc in
              project_same p found.0 m n tails (number_lacks_plus m j is_number) (number_lacks_plus n k is_number')
        ]
      ]

  pub number_same : IsForm f → IsForm g → m ≡ n
  number_same form form' =
      elim form [ inl none ↦ from_nothing none form' | inr more ↦ elim more [ inl hash ↦ from_hash hash form' | inr found ↦ from_project found.0 found.2 form' ] ]

-- under one base a value has one reading at most
pub ReadsAs-same : (base value : List ℕ) (j k : ℕ) → ReadsAs base value j → ReadsAs base value k → j ≡ k
ReadsAs-same base value j k m n =
    let both = append_cancel_left base (m.form ++ m.number) (n.form ++ n.number) (sym m.whole ∙ n.whole) in
    let same = number_same m.form m.number n.form n.number (m.form ++ m.number) j k m.is_number n.is_number refl both m.is_form n.is_form in
    IsNumberAndTail-same m.number j k m.is_number (subst (λ t. IsNumberAndTail t k) (sym same) n.is_number)

-- ---- the first base

first_same : {X : Type 0} (P : X → Type 0) (xs : List X) (x : X) (ps ys : List X) (y : X) (qs : List X)
    → xs ++ x ∷ ps ≡ ys ++ y ∷ qs → P x → P y
    → ((z : X) → Contains xs z → ¬ (P z)) → ((z : X) → Contains ys z → ¬ (P z)) → x ≡ y
first_same P [] x ps [] y qs e p q none none' = cc
first_same P [] x ps (z ∷ ys) y qs e p q none none' = let same : x ≡ z = cc in absurd
    (none' z (Contains-first z ys) (subst P same p))
first_same P (z ∷ xs) x ps [] y qs e p q none none' = let same : y ≡ z = cc in absurd
    (none z (Contains-first z xs) (subst P same q))
first_same P (z ∷ xs) x ps (w ∷ ys) y qs e p q none none' =
    let tail : xs ++ x ∷ ps ≡ ys ++ y ∷ qs = cc in
    first_same P xs x ps ys y qs tail p q (λ v c. none v (Contains-append_right (z ∷ []) xs v c))
    (λ v c. none' v (Contains-append_right (w ∷ []) ys v c))

-- a value names one change at most
pub NamesChange-same : (bases : List (List ℕ)) (value : List ℕ) (j k : ℕ) → NamesChange bases value j
    → NamesChange bases value k → j ≡ k
NamesChange-same bases value j k m n =
    let same = first_same (λ b. (i : ℕ) × ReadsAs b value i) m.before m.base m.after n.before n.base n.after
    (sym m.whole ∙ n.whole) (j, m.reads) (k, n.reads)
    (λ b c r. m.first b r.0 c r.1) (λ b c r. n.first b r.0 c r.1) in
    ReadsAs-same m.base value j k m.reads (subst (λ b. ReadsAs b value k) (sym same) n.reads)
