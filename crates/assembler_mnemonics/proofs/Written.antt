-- What is written for a register or a vtype is read back.
use Rattle.std.proofs.Common.{◌≡◌, ℕ, zero, suc, ◌+◌, ◌*◌, ◌/◌, ◌%◌, ◌<◌, ◌≤◌, ◌&&◌, nat_lt, [], ◌∷◌, ◌++◌, refl, ◌∙◌, ap, arith, Some, Bool, true, false}
use Rattle.std.proofs.lemmas.Fmt.{decimal_digit, decimal_step}
use Rattle.std.proofs.lemmas.Bool.{ltb-true}
use Rattle.std.proofs.lemmas.Bool.Decides.{nat_tests}
use Rattle.assembler_mnemonics.specs.Registers.{register_text, register_number}
use Rattle.assembler_mnemonics.specs.Configuration.{width_names, group_names, tail_names, mask_names, vtype_of, group_code, width_code, tail_code, mask_code}
use Rattle.assembler_mnemonics.specs.Configuration.{has_names, place_in, vtype_named, name_at}
use Rattle.assembler_mnemonics.proofs.Named.{both_true}

-- ---- registers

one_digit : (letter digit : ℕ) → digit < 10 → register_number letter (letter ∷ (48 + digit) ∷ []) ≡ Some digit
unfolding register_number
one_digit letter digit small = grind (arith, nat_tests)

two_digits : (letter tens ones : ℕ) → 0 < tens → tens < 10 → ones < 10 → tens * 10 + ones < 32
    → register_number letter (letter ∷ (48 + tens) ∷ (48 + ones) ∷ []) ≡ Some (tens * 10 + ones)
unfolding register_number
two_digits letter tens ones some small small' within = grind (arith, nat_tests)

long_text : (letter number : ℕ) → 10 ≤ number → number < 32 → register_text letter number ≡ letter ∷ (48 + number / 10) ∷ (48 + number % 10) ∷ []
long_text letter number long small =
    let more = decimal_step number long (omega arith) in
    let first = decimal_digit (number / 10) (omega arith) in
    ap (λ text. letter ∷ text) (more ∙ ap (λ text. text ++ (48 + number % 10) ∷ []) first)

register_by : (letter number : ℕ) (short : Bool) → nat_lt number 10 ≡ short → number < 32 → register_number letter (register_text letter number) ≡ Some number
register_by letter number true short small =
    ap (λ text. register_number letter (letter ∷ text)) (decimal_digit number (ltb-true number 10 short)) ∙ one_digit letter number (ltb-true number 10 short)
register_by letter number false long small =
    let above : 10 ≤ number = grind (arith, nat_tests) in
    ap (register_number letter) (long_text letter number above small)
    ∙ two_digits letter (number / 10) (number % 10) (omega arith) (omega arith) (omega arith) (omega arith)
    ∙ ap Some (omega arith)

pub register_read_back : (letter number : ℕ) → number < 32 → register_number letter (register_text letter number) ≡ Some number
register_read_back letter number small = register_by letter number (nat_lt number 10) refl small

-- ---- configurations

width_back : (code : ℕ) → code < 3 → place_in width_names (name_at width_names code) ≡ Some code
unfolding place_in
width_back zero small = refl
width_back (suc zero) small = refl
width_back (suc (suc zero)) small = refl
width_back (suc (suc (suc code))) small = absurd (omega arith)

group_back : (code : ℕ) → code < 3 → place_in group_names (name_at group_names code) ≡ Some code
unfolding place_in
group_back zero small = refl
group_back (suc zero) small = refl
group_back (suc (suc zero)) small = refl
group_back (suc (suc (suc code))) small = absurd (omega arith)

tail_back : (code : ℕ) → code < 2 → place_in tail_names (name_at tail_names code) ≡ Some code
unfolding place_in
tail_back zero small = refl
tail_back (suc zero) small = refl
tail_back (suc (suc code)) small = absurd (omega arith)

mask_back : (code : ℕ) → code < 2 → place_in mask_names (name_at mask_names code) ≡ Some code
unfolding place_in
mask_back zero small = refl
mask_back (suc zero) small = refl
mask_back (suc (suc code)) small = absurd (omega arith)

pub vtype_read_back : (vtype : ℕ) → has_names vtype ≡ true
    → vtype_named (name_at width_names (width_code vtype)) (name_at group_names (group_code vtype)) (name_at tail_names (tail_code vtype))
    (name_at mask_names (mask_code vtype)) ≡ Some vtype
unfolding vtype_named
vtype_read_back vtype named =
    let whole = both_true (nat_lt vtype 256 && nat_lt (group_code vtype) 3) (nat_lt (width_code vtype) 3) named in
    let front = both_true (nat_lt vtype 256) (nat_lt (group_code vtype) 3) whole.0 in
    let small = ltb-true vtype 256 front.0 in
    let width = width_back (width_code vtype) (ltb-true (width_code vtype) 3 whole.1) in
    let group = group_back (group_code vtype) (ltb-true (group_code vtype) 3 front.1) in
    let tail = tail_back (tail_code vtype) (omega arith) in
    let mask = mask_back (mask_code vtype) (omega arith) in
    let same : vtype_of (width_code vtype) (group_code vtype) (tail_code vtype) (mask_code vtype) ≡ vtype = omega arith in
    rw (width, group, tail, mask) (ap Some same)
