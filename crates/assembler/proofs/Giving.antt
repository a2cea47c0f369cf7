-- What operands give is what their slots can give.
use Rattle.std.proofs.Common.{◌≡◌, ℕ, ◌+◌, ◌-◌, ◌*◌, ◌==◌, ℤ, pos, negsuc, ◌-ℤ◌, ◌≤ℤ◌, ◌<◌, ◌≤◌, ◌&&◌, Bool, true, false, not, nat_lt, nat_le, if◌then◌else◌}
use Rattle.std.proofs.Common.{List, [], ◌∷◌, ◌++◌, Option, Some, None, Result, Ok, Err, refl, sym, ◌∙◌, arith, codes, inl, inr, option_map}
use Rattle.std.specs.Int.Signed.{le_z, le_z_yes}
use Rattle.std.proofs.lemmas.Bool.{and_parts, leb-true, ltb-true, le-leb}
use Rattle.line_text.specs.Lines.{is_digit, ◌>>=◌}
use Rattle.assembler_mnemonics.specs.declared.slots.Slot.{Slot}
use Rattle.assembler_mnemonics.specs.declared.slots.Slot.TheVariants as s
use Rattle.assembler_mnemonics.specs.Placing.{GivesOne, Gives, AllGive, placed}
use Rattle.assembler_mnemonics.specs.declared.forms.MnemonicForm.{MnemonicForm}
use Rattle.assembler_mnemonics.specs.Slots.{shape, blank}
use Rattle.assembler.specs.Filling.{Fills}
use Rattle.std.proofs.lemmas.List.{append-nil}
use Rattle.assembler_mnemonics.specs.Registers.{register_number, integer_letter, vector_letter}
use Rattle.std.specs.Int.{int_shr}
use Rattle.std.specs.Str.{bytes_eq}
use Rattle.assembler.specs.Places.{address}
use Rattle.assembler.specs.declared.surveys.Survey.{Survey}
use Rattle.assembler.specs.declared.surveys.Here.{Here}
use Rattle.assembler.specs.declared.faults.AsmFault.TheVariants.{Syntax, Register, Target}
use Rattle.assembler_syntax.specs.declared.statements.Operand.{Operand}
use Rattle.assembler_syntax.specs.declared.statements.Operand.TheVariants as o
use Rattle.assembler.specs.Faults.{both, or_fault, unless}
use Rattle.assembler.specs.Judging.{Context, is_within, number_within, register_of, in_field, in_fields, given, given_all, appended, named_type, named_at}
use Rattle.assembler.specs.Judging.{named_or, four_names, left_out, reached, halves_of, halves_to, halves_to_label, referenced, is_odd, masked}
use Rattle.assembler.specs.declared.faults.AsmFault.{AsmFault}

below : (a b : ℤ) → le_z a b ≡ true → a ≤ℤ b
below a b e = le_z_yes (rw e tt)

-- a number that was judged to lie within bounds
bounds : (least greatest n m : ℤ) (b : Bool) → is_within least greatest n ≡ b → number_within least greatest n ≡ Ok m → (n ≡ m) × (least ≤ℤ n) × (n ≤ℤ greatest)
bounds least greatest n m true e is =
    let parts = and_parts (le_z least n) (le_z n greatest) e in
    let same : n ≡ m = let found : Ok n ≡ Ok m = rw e at is in cc in
    (same, below least n parts.0, below n greatest parts.1)
bounds least greatest n m false e is = let wrong : Err _ ≡ Ok m = rw e at is in absurd cc

within : (least greatest n m : ℤ) → number_within least greatest n ≡ Ok m → (least ≤ℤ m) × (m ≤ℤ greatest)
within least greatest n m is =
    let found = bounds least greatest n m (is_within least greatest n) refl is in
    rw (sym found.0) (found.1, found.2)

-- a field with a number that is known to lie within bounds
one : (field : ℕ) (least greatest : ℤ) (judged : Result ℤ AsmFault) (pairs : List (ℕ × ℤ)) → ((m : ℤ) → judged ≡ Ok m → (least ≤ℤ m) × (m ≤ℤ greatest))
    → in_field field judged ≡ Ok pairs → GivesOne field least greatest pairs
one field least greatest (Ok m) pairs lies is =
    let l = lies m refl in
    let made : pairs ≡ (field, m) ∷ [] = cc in
    (m, made, l.0, l.1)
one field least greatest (Err f) pairs lies is = absurd cc

pub one_number : (field : ℕ) (least greatest n : ℤ) (pairs : List (ℕ × ℤ)) → in_field field (number_within least greatest n) ≡ Ok pairs
    → GivesOne field least greatest pairs
one_number field least greatest n pairs is = one field least greatest (number_within least greatest n) pairs (within least greatest n) is

-- ---- registers

short_small : (a d letter n : ℕ) (b : Bool) → (a == letter && is_digit d) ≡ b → (if b then Some (d - 48) else None) ≡ Some n → n < 32
short_small a d letter n true e is =
    let digit : is_digit d ≡ true = (and_parts (a == letter) (is_digit d) e).1 in
    let most : d ≤ 57 = leb-true d 57 (and_parts (nat_le 48 d) (nat_le d 57) digit).1 in
    let same : d - 48 ≡ n = cc in
    omega (arith, most, same)
short_small a d letter n false e is = absurd cc

long_small : (a d e letter m n : ℕ) (b : Bool) → (a == letter && is_digit d && not (d == 48) && is_digit e && nat_lt m 32) ≡ b
    → (if b then Some m else None) ≡ Some n → n < 32
long_small a d e letter m n true t is =
    let last : nat_lt m 32 ≡ true = (and_parts (a == letter && is_digit d && not (d == 48) && is_digit e) (nat_lt m 32) t).1 in
    let same : m ≡ n = cc in
    rw (sym same) (ltb-true m 32 last)
long_small a d e letter m n false t is = absurd cc

number_small : (letter : ℕ) (word : List ℕ) (n : ℕ) → register_number letter word ≡ Some n → n < 32
unfolding register_number
number_small letter [] n is = absurd cc
number_small letter (a ∷ []) n is = absurd cc
number_small letter (a ∷ d ∷ []) n is = short_small a d letter n (a == letter && is_digit d) refl is
number_small letter (a ∷ d ∷ e ∷ []) n is = long_small a d e letter ((d - 48) * 10 + (e - 48)) n (a == letter && is_digit d && not (d == 48) && is_digit e
    && nat_lt ((d - 48) * 10 + (e - 48)) 32) refl is
number_small letter (a ∷ d ∷ e ∷ g ∷ word) n is = absurd cc

register_by : (letter : ℕ) (word : List ℕ) (m : ℤ) (found : Option ℕ) → register_number letter word ≡ found → register_of letter word ≡ Ok m
    → (pos 0 ≤ℤ m) × (m ≤ℤ pos 31)
register_by letter word m (Some n) e is =
    let made : Ok (pos n) ≡ Ok m = rw e at is in
    let same : pos n ≡ m = cc in
    let small : n < 32 = number_small letter word n e in
    rw (sym same) (below (pos 0) (pos n) (le-leb 0 n (omega arith)), below (pos n) (pos 31) (le-leb n 31 (omega (arith, small))))
register_by letter word m None e is = let wrong : Err _ ≡ Ok m = rw e at is in absurd cc

pub one_register : (field letter : ℕ) (word : List ℕ) (pairs : List (ℕ × ℤ)) → in_field field (register_of letter word) ≡ Ok pairs
    → GivesOne field (pos 0) (pos 31) pairs
one_register field letter word pairs is = one field (pos 0) (pos 31) (register_of letter word) pairs (λ m e. register_by letter word m
    (register_number letter word) refl e) is

-- ---- an operand in its slot

-- an offset and its base
based_by : (offset base : ℕ) (n : ℤ) (word : List ℕ) (pairs : List (ℕ × ℤ)) (first second : Result ℤ AsmFault)
    → number_within (negsuc 2047) (pos 2047) n ≡ first → register_of integer_letter word ≡ second → in_fields offset base (both first second) ≡ Ok pairs
    → Gives (s.Based offset base) pairs
based_by offset base n word pairs (Ok m) (Ok r) e f is =
    let made : pairs ≡ ((offset, m) ∷ []) ++ ((base, r) ∷ []) = cc in (
      (offset, m) ∷ [],
      (base, r) ∷ [],
      one_number offset (negsuc 2047) (pos 2047) n ((offset, m) ∷ []) (rw e refl),
      one_register base integer_letter word ((base, r) ∷ []) (rw f refl),
      made,
    )
based_by offset base n word pairs (Ok m) (Err f) e g is = absurd cc
based_by offset base n word pairs (Err f) (Ok r) e g is = absurd cc
based_by offset base n word pairs (Err f) (Err g) e h is = absurd cc

-- half-words within reach
reached_by : (reach halves m : ℤ) (b : Bool) → is_within (pos 0 -ℤ reach) (reach -ℤ pos 1) halves ≡ b → or_fault Target (reached reach halves) ≡ Ok m
    → ((pos 0 -ℤ reach) ≤ℤ m) × (m ≤ℤ (reach -ℤ pos 1))
reached_by reach halves m true e is =
    let parts = and_parts (le_z (pos 0 -ℤ reach) halves) (le_z halves (reach -ℤ pos 1)) e in
    let made : Ok halves ≡ Ok m = rw e at is in
    let same : halves ≡ m = cc in
    rw (sym same) (below (pos 0 -ℤ reach) halves parts.0, below halves (reach -ℤ pos 1) parts.1)
reached_by reach halves m false e is = let wrong : Err Target ≡ Ok m = rw e at is in absurd cc

halves_by : (reach bytes m : ℤ) (odd : AsmFault) (b : Bool) → is_odd bytes ≡ b → halves_of reach odd bytes ≡ Ok m
    → ((pos 0 -ℤ reach) ≤ℤ m) × (m ≤ℤ (reach -ℤ pos 1))
halves_by reach bytes m odd true e is = let wrong : Err odd ≡ Ok m = rw e at is in absurd cc
halves_by reach bytes m odd false e is =
    let made : or_fault Target (reached reach (int_shr bytes 1)) ≡ Ok m = rw e at is in
    reached_by reach (int_shr bytes 1) m (is_within (pos 0 -ℤ reach) (reach -ℤ pos 1) (int_shr bytes 1)) refl made

halves : (reach bytes m : ℤ) (odd : AsmFault) → halves_of reach odd bytes ≡ Ok m → ((pos 0 -ℤ reach) ≤ℤ m) × (m ≤ℤ (reach -ℤ pos 1))
halves reach bytes m odd is = halves_by reach bytes m odd (is_odd bytes) refl is

to_label : (survey : Survey) (here : Here) (reach m : ℤ) (label : List ℕ) (found : Result ℕ AsmFault) → referenced survey label ≡ found
    → halves_to_label survey here reach label ≡ Ok m
    → ((pos 0 -ℤ reach) ≤ℤ m) × (m ≤ℤ (reach -ℤ pos 1))
to_label survey here reach m label (Ok target) e is = let made : halves_to here reach target ≡ Ok m = rw e at is in
    halves reach (pos target -ℤ pos (address here.place)) m Target made
to_label survey here reach m label (Err fault) e is = let wrong : Err fault ≡ Ok m = rw e at is in absurd cc

-- the mask, where it is written
masked_by : (field : ℕ) (word : List ℕ) (pairs : List (ℕ × ℤ)) (b : Bool) → bytes_eq word (codes "v0.t") ≡ b → masked field word ≡ Ok pairs
    → GivesOne field (pos 0) (pos 0) pairs
masked_by field word pairs true e is =
    let made : Ok ((field, pos 0) ∷ []) ≡ Ok pairs = rw e at is in
    let same : pairs ≡ (field, pos 0) ∷ [] = cc in
    (pos 0, same, le_z_yes tt, le_z_yes tt)
masked_by field word pairs false e is = let wrong : Err Syntax ≡ Ok pairs = rw e at is in absurd cc

mask_register : (word : List ℕ) (pairs : List (ℕ × ℤ)) (b : Bool) → bytes_eq word (codes "v0") ≡ b
    → (unless Register (bytes_eq word (codes "v0")) >>= λ _. Ok []) ≡ Ok pairs → pairs ≡ []
mask_register word pairs true e is = let made : Ok [] ≡ Ok pairs = rw e at is in cc
mask_register word pairs false e is = let wrong : Err Register ≡ Ok pairs = rw e at is in absurd cc

pub gives : (c : Context) (slot : Slot) (operand : Operand) (pairs : List (ℕ × ℤ)) → given c slot operand ≡ Ok pairs → Gives slot pairs
unfolding given
gives c (s.Integer field) (o.Word word) pairs is = one_register field integer_letter word pairs is
gives c (s.Integer field) (o.Number n) pairs is = absurd cc
gives c (s.Integer field) (o.Based n w) pairs is = absurd cc
gives c (s.Integer field) (o.Bracketed w) pairs is = absurd cc
gives c (s.Vector field) (o.Word word) pairs is = one_register field vector_letter word pairs is
gives c (s.Vector field) (o.Number n) pairs is = absurd cc
gives c (s.Vector field) (o.Based n w) pairs is = absurd cc
gives c (s.Vector field) (o.Bracketed w) pairs is = absurd cc
gives c s.MaskRegister (o.Word word) pairs is = mask_register word pairs (bytes_eq word (codes "v0")) refl is
gives c s.MaskRegister (o.Number n) pairs is = absurd cc
gives c s.MaskRegister (o.Based n w) pairs is = absurd cc
gives c s.MaskRegister (o.Bracketed w) pairs is = absurd cc
gives c (s.Number field least greatest) (o.Number n) pairs is = one_number field least greatest n pairs is
gives c (s.Number field least greatest) (o.Word w) pairs is = absurd cc
gives c (s.Number field least greatest) (o.Based n w) pairs is = absurd cc
gives c (s.Number field least greatest) (o.Bracketed w) pairs is = absurd cc
gives c (s.Upper field) (o.Number n) pairs is = one_number field (pos 0) (pos 1048575) n pairs is
gives c (s.Upper field) (o.Word w) pairs is = absurd cc
gives c (s.Upper field) (o.Based n w) pairs is = absurd cc
gives c (s.Upper field) (o.Bracketed w) pairs is = absurd cc
gives c (s.Based offset base) (o.Based n word) pairs is = based_by offset base n word pairs (number_within (negsuc 2047) (pos 2047) n)
    (register_of integer_letter word) refl refl is
gives c (s.Based offset base) (o.Word w) pairs is = absurd cc
gives c (s.Based offset base) (o.Number n) pairs is = absurd cc
gives c (s.Based offset base) (o.Bracketed w) pairs is = absurd cc
gives c (s.Address base) (o.Bracketed word) pairs is = one_register base integer_letter word pairs is
gives c (s.Address base) (o.Word w) pairs is = absurd cc
gives c (s.Address base) (o.Number n) pairs is = absurd cc
gives c (s.Address base) (o.Based n w) pairs is = absurd cc
gives c (s.Target field reach) (o.Number n) pairs is = one field (pos 0 -ℤ reach) (reach -ℤ pos 1) (halves_of reach Syntax n) pairs (λ m e. halves reach n m
    Syntax e) is
gives c (s.Target field reach) (o.Word word) pairs is =
    one field (pos 0 -ℤ reach) (reach -ℤ pos 1) (halves_to_label c.survey c.here reach word) pairs (λ m e. to_label c.survey c.here reach m word
    (referenced c.survey word) refl e) is
gives c (s.Target field reach) (o.Based n w) pairs is = absurd cc
gives c (s.Target field reach) (o.Bracketed w) pairs is = absurd cc
gives c (s.Configuration field greatest) (o.Number n) pairs is = one_number field (pos 0) greatest n pairs is
gives c (s.Configuration field greatest) (o.Word w) pairs is = absurd cc
gives c (s.Configuration field greatest) (o.Based n w) pairs is = absurd cc
gives c (s.Configuration field greatest) (o.Bracketed w) pairs is = absurd cc
gives c (s.Mask field) (o.Word word) pairs is = inr (masked_by field word pairs (bytes_eq word (codes "v0.t")) refl is)
gives c (s.Mask field) (o.Number n) pairs is = absurd cc
gives c (s.Mask field) (o.Based n w) pairs is = absurd cc
gives c (s.Mask field) (o.Bracketed w) pairs is = absurd cc

-- ---- all operands

named_gives : (field : ℕ) (greatest : ℤ) (vtype : Option ℕ) (pairs : List (ℕ × ℤ)) → named_type field greatest vtype ≡ Ok pairs
    → GivesOne field (pos 0) greatest pairs
named_gives field greatest (Some n) pairs is = one_number field (pos 0) greatest (pos n) pairs is
named_gives field greatest None pairs is = absurd cc

pub appended_by : (c : Context) (slot : Slot) (slots : List Slot) (first others : Result (List (ℕ × ℤ)) AsmFault) (pairs : List (ℕ × ℤ))
    → ((own : List (ℕ × ℤ)) → first ≡ Ok own → Gives slot own) → ((more : List (ℕ × ℤ)) → others ≡ Ok more → AllGive slots more)
    → appended (both first others) ≡ Ok pairs → AllGive (slot ∷ slots) pairs
appended_by c slot slots (Ok own) (Ok more) pairs f g is = let made : pairs ≡ own ++ more = cc in (own, more, f own refl, g more refl, made)
appended_by c slot slots (Ok own) (Err e) pairs f g is = absurd cc
appended_by c slot slots (Err e) (Ok more) pairs f g is = absurd cc
appended_by c slot slots (Err e) (Err d) pairs f g is = absurd cc

left_out_gives : (slot : Slot) (slots : List Slot) (pairs : List (ℕ × ℤ)) → left_out slot slots ≡ Ok pairs → AllGive (slot ∷ slots) pairs
left_out_gives (s.Mask field) [] pairs is = let none : pairs ≡ [] = cc in ([], [], inl refl, refl, none)
left_out_gives (s.Mask field) (slot ∷ slots) pairs is = absurd cc
left_out_gives (s.Integer field) slots pairs is = absurd cc
left_out_gives (s.Vector field) slots pairs is = absurd cc
left_out_gives s.MaskRegister slots pairs is = absurd cc
left_out_gives (s.Number field least greatest) slots pairs is = absurd cc
left_out_gives (s.Upper field) slots pairs is = absurd cc
left_out_gives (s.Based offset base) slots pairs is = absurd cc
left_out_gives (s.Address base) slots pairs is = absurd cc
left_out_gives (s.Target field reach) slots pairs is = absurd cc
left_out_gives (s.Configuration field greatest) slots pairs is = absurd cc

-- names in the slot of a vtype
names_by : (field : ℕ) (greatest : ℤ) (found : Option (Option ℕ)) (named : Result (List (ℕ × ℤ)) AsmFault) (pairs : List (ℕ × ℤ))
    → option_map (named_type field greatest) found ≡ Some named → named ≡ Ok pairs → AllGive (s.Configuration field greatest ∷ []) pairs
names_by field greatest (Some vtype) named pairs is ok =
    let same : named_type field greatest vtype ≡ named = cc in
    let whole : pairs ≡ pairs ++ [] = sym (append-nil pairs) in
    (pairs, [], named_gives field greatest vtype pairs (same ∙ ok), refl, whole)
names_by field greatest None named pairs is ok = absurd cc

named_all : (slots : List Slot) (operands : List Operand) (named : Result (List (ℕ × ℤ)) AsmFault) (pairs : List (ℕ × ℤ)) → named_at slots operands ≡ Some named
    → named ≡ Ok pairs → AllGive slots pairs
named_all (s.Configuration field greatest ∷ []) operands named pairs is ok = names_by field greatest (four_names operands) named pairs is ok
named_all (s.Configuration field greatest ∷ slot ∷ slots) operands named pairs is ok = absurd cc
named_all [] operands named pairs is ok = absurd cc
named_all (s.Integer field ∷ slots) operands named pairs is ok = absurd cc
named_all (s.Vector field ∷ slots) operands named pairs is ok = absurd cc
named_all (s.MaskRegister ∷ slots) operands named pairs is ok = absurd cc
named_all (s.Number field least greatest ∷ slots) operands named pairs is ok = absurd cc
named_all (s.Upper field ∷ slots) operands named pairs is ok = absurd cc
named_all (s.Based offset base ∷ slots) operands named pairs is ok = absurd cc
named_all (s.Address base ∷ slots) operands named pairs is ok = absurd cc
named_all (s.Target field reach ∷ slots) operands named pairs is ok = absurd cc
named_all (s.Mask field ∷ slots) operands named pairs is ok = absurd cc

or_by : (slots : List Slot) (operands : List Operand) (found : Option (Result (List (ℕ × ℤ)) AsmFault)) (others : Result (List (ℕ × ℤ)) AsmFault)
    (pairs : List (ℕ × ℤ))
    → named_at slots operands ≡ found → (others ≡ Ok pairs → AllGive slots pairs) → named_or found others ≡ Ok pairs → AllGive slots pairs
or_by slots operands (Some named) others pairs e f is = named_all slots operands named pairs e is
or_by slots operands None others pairs e f is = f is

pub all_give : (c : Context) (slots : List Slot) (operands : List Operand) (pairs : List (ℕ × ℤ)) → given_all c slots operands ≡ Ok pairs → AllGive slots pairs
unfolding given_all
all_give c [] [] pairs is = let none : pairs ≡ [] = cc in none
all_give c [] (operand ∷ operands) pairs is = absurd cc
all_give c (slot ∷ slots) [] pairs is = left_out_gives slot slots pairs is
all_give c (slot ∷ slots) (operand ∷ operands) pairs is =
    or_by (slot ∷ slots) (operand ∷ operands) (named_at (slot ∷ slots) (operand ∷ operands))
    (appended (both (given c slot operand) (given_all c slots operands))) pairs refl
    (λ e. appended_by c slot slots (given c slot operand) (given_all c slots operands) pairs (λ own f. gives c slot operand own f) (λ more g. all_give c slots
    operands more g) e) is

-- ---- fields that were filled are fields of the form

pub filled : (c : Context) (form : MnemonicForm) (operands : List Operand) (judged : Result (List (ℕ × ℤ)) AsmFault) (new : List ℤ)
    → given_all c (shape form) operands ≡ judged → Fills judged (Ok tt) (blank form) new → (pairs : List (ℕ × ℤ)) × (judged ≡ Ok pairs)
    × (new ≡ placed (blank form) pairs) × AllGive (shape form) pairs
filled c form operands (Ok pairs) new e fills = (pairs, refl, fills, all_give c (shape form) operands pairs e)
filled c form operands (Err fault) new e fills = elim fills [ ]
