-- Lists of lines and of keys.
use Rattle.std.proofs.Common.{◌≡◌, inl, inr, ℕ, zero, suc, ◌<◌, ◌+◌, ◌++◌, [], ◌∷◌, List, sym, ◌∙◌, ap, refl, arith, length, length-append, take, drop, get_or, append_assoc, take-append-drop, drop-cons, subst, All}
use Rattle.std.proofs.lemmas.List.{take_more}
use Rattle.std.proofs.lemmas.List.Elements.{All-append}
use Rattle.std.proofs.Math.Seq.{take-append_seam}
use Rattle.key_file.specs.Files.{KeyEntry, IsBad, IsFirstKey, AreUnreadKeys, Say, SaysMore, role_text}
use Rattle.key_file.specs.declared.fault.KeyFault.TheVariants.{BadLine}
use Rattle.key_file.specs.declared.key.Role.{Role}
use Rattle.key_file.specs.declared.key.Role.TheVariants.{Read, Feed}

pub role_long : (role : Role) → length (role_text role) ≡ 4
role_long Read = refl
role_long Feed = refl

pub say_append : (first second : List (List ℕ)) (keys more : List KeyEntry) → Say first keys → Say second more → Say (first ++ second) (keys ++ more)
say_append [] second keys more none said = rw none said
say_append (line ∷ first) second keys more (inl passed) said = inl (passed.0, say_append first second keys more passed.1 said)
say_append (line ∷ first) second keys more (inr says) said =
    inr (says.0, says.1 ++ more, says.2, ap (λ (l : List KeyEntry). l ++ more) says.3, say_append first second says.1 more says.4 said)

-- of all lines so many were read, and said these keys
pub record IsReading (all left : List (List ℕ)) (keys : List KeyEntry) (number : ℕ) : Type 0 where
  pub done : List (List ℕ)
  pub whole : all ≡ done ++ left
  pub count : length done ≡ number
  pub said : Say done keys

pub reading_next : (all left rest : List (List ℕ)) (keys new : List KeyEntry) (number : ℕ) (line : List ℕ) → IsReading all left keys number
    → left ≡ line ∷ rest → SaysMore line keys new → IsReading all rest new (number + 1)
reading_next all left rest keys new number line is next says = record {
  done = is.done ++ line ∷ [];
  whole = is.whole ∙ ap (λ (l : List (List ℕ)). is.done ++ l) next ∙ sym (append_assoc is.done (line ∷ []) rest);
  count = length-append is.done (line ∷ []) ∙ ap (λ n. n + 1) is.count;
  said = rw says.2 (say_append is.done (line ∷ []) keys says.0 is.said says.1);
}

pub reading_bad : (all left rest : List (List ℕ)) (keys : List KeyEntry) (number : ℕ) (line : List ℕ) → IsReading all left keys number
    → left ≡ line ∷ rest → IsBad line → AreUnreadKeys all (BadLine (number + 1))
reading_bad all left rest keys number line is next bad =
    let whole : all ≡ is.done ++ line ∷ rest = is.whole ∙ ap (λ (l : List (List ℕ)). is.done ++ l) next in
    let front : take number all ≡ is.done =
    ap (λ n. take n all) (sym is.count) ∙ ap (take (length is.done)) whole ∙ take-append_seam is.done (line ∷ rest) in (
      number,
      refl,
      record {
        keys = keys;
        good = rw front is.said;
        bad = line;
        rest = rest;
        at = rw front whole;
        is_bad = bad;
      },
    )

-- nothing before a place is what is looked for, and what stands there is
pub first_at : (P : KeyEntry → Type 0) (keys : List KeyEntry) (i : ℕ) (found : KeyEntry) → i < length keys → All (λ key. ¬ P key) (take i keys)
    → found ≡ get_or keys i found → P found → IsFirstKey P keys found
first_at P keys i found within none at is = record {
  before = take i keys;
  after = drop (suc i) keys;
  whole = sym (take-append-drop i keys) ∙ ap (λ (l : List KeyEntry). take i keys ++ l) (drop-cons keys i found within ∙ ap (λ x. x ∷ drop (suc i) keys) (sym at));
  none = none;
  is = is;
}

all_of_one : (P : KeyEntry → Type 0) (key : KeyEntry) → P key → All P (key ∷ [])
all_of_one P key is zero d lt = is
all_of_one P key is (suc k) d lt = absurd (omega (arith, lt))

pub one_more : (P : KeyEntry → Type 0) (keys : List KeyEntry) (i : ℕ) (found : KeyEntry) → i < length keys → All P (take i keys)
    → found ≡ get_or keys i found → P found → All P (take (i + 1) keys)
one_more P keys i found within before at is =
    let next = take_more keys i found within in
    rw next (All-append P (take i keys) (get_or keys i found ∷ []) before (all_of_one P (get_or keys i found) (subst P at is)))
