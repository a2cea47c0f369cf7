-- The table as a whole: its names are distinct, its rows apart, and each row has a place for every bit of a word.
use Rattle.std.proofs.Common.{◌≡◌, ◌≢◌, ℕ, zero, suc, ◌^◌, ◌<◌, ◌==◌, List, [], ◌∷◌, length, refl, sym, ◌∙◌, ap, arith, subst, Bool, true, false, not, ◌&&◌}
use Rattle.std.proofs.Common.{◌||◌, nat_eq, inl, inr, get_or}
use Rattle.std.specs.Prelude.{All, AllPairs, Contains, map}
use Rattle.std.specs.List.{list_all, list_any}
use Rattle.std.specs.Str.{bytes_eq}
use Rattle.std.specs.Cmp.Lexicographic.{bytes_decides}
use Rattle.std.specs.Int.{bit_at}
use Rattle.std.proofs.lemmas.Bool.{eqb-true, eq-eqb, cases_order}
use Rattle.std.proofs.lemmas.Int.{ints}
use Rattle.std.proofs.lemmas.List.{get_or_default}
use Rattle.std.proofs.lemmas.List.Elements.{All-contains}
use Rattle.std.proofs.lemmas.Nat.Bits.{same_from_bits_below}
use Rattle.rv_insn.specs.Encoding.{Holds, number_at, span, fixed, in_parts, signed, Field, field_of, Row}
use Rattle.rv_insn.specs.Encoding.Field.{Unsigned, Signed}
use Rattle.rv_insn.specs.VectorTable.{vector_table}
use Rattle.rv_insn.specs.Table.{table, scalar_table, r_type, i_type, s_type, b_type, u_type, j_type, amo_type, whole_word, fields_of, Means}
use Rattle.rv_insn.specs.declared.instructions.Insn.{Insn}
use Rattle.rv_encoding.proofs.Bits.{number_at-lt}
use Rattle.rv_encoding.proofs.Lists.{pairs_pass, both_true, one_true, not_true, All-from_test, AllPairs-from_test}

-- ---- tests that compute

abbrev pub are_named_apart : Row → Row → Bool
are_named_apart first second = not (bytes_eq first.name second.name)

-- some position is fixed in both, to different bits
abbrev pub are_apart : Row → Row → Bool
are_apart first second = list_any (λ pair. list_any (λ other. (pair.0 == other.0) && not (pair.1 == other.1)) second.pairs) first.pairs

abbrev pub is_fixed : ℕ → List (ℕ × ℕ) → Bool
is_fixed place pairs = list_any (λ pair. pair.0 == place) pairs

abbrev pub is_read : ℕ → Field → Bool
is_read place (Unsigned places) = list_any (λ q. q == place) places
is_read place (Signed places) = list_any (λ q. q == place) places

-- each position below `count` is fixed by the row or is one of its fields' places
abbrev pub covers : ℕ → Row → Bool
covers zero row = true
covers (suc place) row = (is_fixed place row.pairs || list_any (is_read place) row.fields) && covers place row

pub names_apart : pairs_pass are_named_apart table ≡ true
unfolding table scalar_table vector_table r_type i_type s_type b_type u_type j_type amo_type whole_word
names_apart = refl

pub bits_apart : pairs_pass are_apart table ≡ true
unfolding table scalar_table vector_table in_parts span fixed r_type i_type s_type b_type u_type j_type amo_type whole_word
bits_apart = refl

pub all_covered : list_all (covers 32) table ≡ true
unfolding table scalar_table vector_table in_parts span fixed r_type i_type s_type b_type u_type j_type amo_type whole_word
all_covered = refl

-- ---- the laws of the table

pub distinct_names : AllPairs (λ (first second : Row). first.name ≢ second.name) table
distinct_names =
    AllPairs-from_test are_named_apart (λ (first second : Row). first.name ≢ second.name)
    (λ first second h e. not_true _ h ((bytes_decides first.name second.name).1 e)) table names_apart

no_clash : (word place bit : ℕ) (pairs : List (ℕ × ℕ)) → list_any (λ other. (place == other.0) && not (bit == other.1)) pairs ≡ true → bit_at word place ≡ bit
    → Holds word pairs → ⊥
unfolding Holds
no_clash word place bit [] h e k = cc
no_clash word place bit (pair ∷ pairs) h e k = elim (one_true _ _ h) [
  | inl here ↦
      let parts = both_true _ _ here in
      let same = eqb-true place pair.0 parts.0 in
      not_true (bit == pair.1) parts.1 (eq-eqb bit pair.1 (sym e ∙ (ap (bit_at word) same ∙ k.0)))
  | inr later ↦ no_clash word place bit pairs later e k.1
]

no_word : (word : ℕ) (pairs others : List (ℕ × ℕ)) → list_any (λ pair. list_any (λ other. (pair.0 == other.0) && not (pair.1 == other.1)) others) pairs ≡ true
    → Holds word pairs → Holds word others → ⊥
unfolding Holds
no_word word [] others h k l = cc
no_word word (pair ∷ pairs) others h k l = elim (one_true _ _ h) [
  | inl here ↦ no_clash word pair.0 pair.1 others here k.0 l
  | inr later ↦ no_word word pairs others later k.1 l
]

pub apart_rows : (word : ℕ) → AllPairs (λ (first second : Row). Holds word first.pairs → Holds word second.pairs → ⊥) table
apart_rows word =
    AllPairs-from_test are_apart (λ (first second : Row). Holds word first.pairs → Holds word second.pairs → ⊥)
    (λ first second h. no_word word first.pairs second.pairs h) table bits_apart

-- ---- a row is known by its name

at_place : {X : Type 0} (xs : List X) (x d : X) (here : Contains xs x) → get_or xs here.0 d ≡ x
at_place xs x d here = get_or_default xs here.0 d x here.1 ∙ here.2

name_at : (row : Row) (d : Row) (here : Contains table row) → (get_or table here.0 d).name ≡ row.name
name_at row d here = ap (λ (r : Row). r.name) (at_place table row d here)

pub same_row : (first second : Row) → Contains table first → Contains table second → first.name ≡ second.name → first ≡ second
same_row first second a b e =
    let names : (get_or table a.0 first).name ≡ (get_or table b.0 first).name = name_at first first a ∙ (e ∙ sym (name_at second first b)) in
    elim (cases_order a.0 b.0) [
      | inl same ↦ sym (at_place table first first a) ∙ (ap (λ k. get_or table k first) same ∙ at_place table second first b)
      | inr (inl less) ↦ absurd (distinct_names a.0 b.0 first less b.1 names)
      | inr (inr more) ↦ absurd (distinct_names b.0 a.0 first more a.1 (sym names))
    ]

-- ---- a row with a place for every bit is spelled in one way

pinned_digit : (word other place : ℕ) (places : List ℕ) → list_any (λ q. q == place) places ≡ true → number_at word places ≡ number_at other places
    → bit_at word place ≡ bit_at other place
unfolding number_at
pinned_digit word other place [] h e = absurd cc
pinned_digit word other place (q ∷ places) h e = elim (one_true _ _ h) [
  | inl here ↦ subst (λ x. bit_at word x ≡ bit_at other x) (eqb-true q place here) (omega (arith, e))
  | inr later ↦ pinned_digit word other place places later (omega (arith, e))
]

pinned_pair : (word other place : ℕ) (pairs : List (ℕ × ℕ)) → is_fixed place pairs ≡ true → Holds word pairs → Holds other pairs
    → bit_at word place ≡ bit_at other place
unfolding Holds
pinned_pair word other place [] h k l = absurd cc
pinned_pair word other place (pair ∷ pairs) h k l = elim (one_true _ _ h) [
  | inl here ↦ subst (λ x. bit_at word x ≡ bit_at other x) (eqb-true pair.0 place here) (k.0 ∙ sym l.0)
  | inr later ↦ pinned_pair word other place pairs later k.1 l.1
]

pub signed-inj : (digits n m : ℕ) → n < 2 ^ digits → m < 2 ^ digits → signed digits n ≡ signed digits m → n ≡ m
signed-inj digits n m a b e = grind (arith, ints)

field_number : (word other : ℕ) (field : Field) (place : ℕ) → is_read place field ≡ true → field_of word field ≡ field_of other field
    → bit_at word place ≡ bit_at other place
field_number word other (Unsigned places) place h e = pinned_digit word other place places h cc
field_number word other (Signed places) place h e =
    pinned_digit word other place places h (signed-inj (length places) _ _ (number_at-lt word places) (number_at-lt other places) e)

pinned_field : (word other place : ℕ) (fields : List Field) → list_any (is_read place) fields ≡ true → map (field_of word) fields ≡ map (field_of other) fields
    → bit_at word place ≡ bit_at other place
pinned_field word other place [] h e = absurd cc
pinned_field word other place (field ∷ fields) h e = elim (one_true _ _ h) [
  | inl here ↦ field_number word other field place here cc
  | inr later ↦ pinned_field word other place fields later cc
]

below_from_not : (place n : ℕ) → place < suc n → nat_eq place n ≡ false → place < n
below_from_not place n within e = grind arith

covered : (count : ℕ) (row : Row) → covers count row ≡ true → (place : ℕ) → place < count → (is_fixed place row.pairs || list_any (is_read place) row.fields)
    ≡ true
covered zero row h place within = absurd (omega arith)
covered (suc n) row h place within =
    let parts = both_true _ _ h in
    elim (nat_eq place n) as (λ t. (nat_eq place n ≡ t) → (is_fixed place row.pairs || list_any (is_read place) row.fields) ≡ true) [
      | true ↦ λ e. subst (λ x. (is_fixed x row.pairs || list_any (is_read x) row.fields) ≡ true) (sym (eqb-true place n e)) parts.0
      | false ↦ λ e. covered n row parts.1 place (below_from_not place n within e)
    ] refl

pub one_word : (row : Row) → covers 32 row ≡ true → (word other : ℕ) → word < 2 ^ 32 → other < 2 ^ 32
    → Holds word row.pairs → Holds other row.pairs → map (field_of word) row.fields ≡ map (field_of other) row.fields → word ≡ other
one_word row h word other small small' k l e =
    same_from_bits_below 32 word other small small' (λ place within. elim (one_true _ _ (covered 32 row h place within)) [
      | inl is ↦ pinned_pair word other place row.pairs is k l
      | inr is ↦ pinned_field word other place row.fields is e
    ])

pub every_covered : All (λ row. covers 32 row ≡ true) table
every_covered = All-from_test (covers 32) (λ row. covers 32 row ≡ true) (λ row h. h) table all_covered

-- two words that mean one instruction are one word
pub one_spelling : (insn : Insn) (word other : ℕ) → word < 2 ^ 32 → other < 2 ^ 32 → Means word insn → Means other insn → word ≡ other
one_spelling insn word other small small' h k =
    let rows : k.0 ≡ h.0 = same_row k.0 h.0 k.1 h.1 (sym k.3 ∙ h.3) in
    let holds : Holds other h.0.pairs = subst (λ (row : Row). Holds other row.pairs) rows k.2 in
    let reads : fields_of insn ≡ map (field_of other) h.0.fields = subst (λ (row : Row). fields_of insn ≡ map (field_of other) row.fields) rows k.4 in
    one_word h.0 (All-contains (λ row. covers 32 row ≡ true) table h.0 every_covered h.1) word other small small' h.2 holds (sym h.4 ∙ reads)
