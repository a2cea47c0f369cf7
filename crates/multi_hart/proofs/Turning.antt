-- A number of 32 bits, turned to the right by two: its two low bits come to be the highest.
use Rattle.std.proofs.Common.{◌≡◌, ℕ, ◌+◌, ◌*◌, ◌/◌, ◌%◌, ◌^◌, ◌<◌, ◌≤◌, ◌-◌, ◌||◌, bit_or, nat_lt, if◌then◌else◌, Bool, true, false, List, length, Option}
use Rattle.std.proofs.Common.{Some, None, option_map, Bor, refl, sym, ap, ◌∙◌, arith}
use Rattle.std.specs.Prelude.{slice_get}
use Rattle.std.specs.Slice.{IsItemAt}
use Rattle.std.proofs.lemmas.Nat.{or_comm, or_shifted}
use Rattle.std.proofs.lemmas.Bool.{ltb-true, ltb-false}
use Rattle.std.proofs.lemmas.Option.{slice_get_past, slice_get_read}
use Rattle.memory.specs.Access.{text_start, most_words, fetched}

low-highest : (n : ℕ) → n * 2 ^ 30 % 2 ^ 32 ≡ n % 4 * 2 ^ 30
low-highest n = omega arith

pub turned-two : (n : ℕ) → n < 2 ^ 32 → bit_or (n / 2 ^ 2) (n * 2 ^ 30 % 2 ^ 32) ≡ n % 4 * 2 ^ 30 + n / 4
turned-two n fits =
    let high : n / 4 < 2 ^ 30 = omega (arith, fits) in
    ap (bit_or (n / 4)) (low-highest n) ∙ or_comm (n / 4) (n % 4 * 2 ^ 30) ∙ or_shifted (n % 4) 30 (n / 4) high

-- ---- the place of a word of text

-- an offset that lies before text, or at no multiple of 4, is turned to a place after every text
before : (pc offset : ℕ) → (pc < text_start → 4 * most_words ≤ offset) → pc < text_start → most_words ≤ offset % 4 * 2 ^ 30 + offset / 4
before pc offset far below = omega (arith, far below)

between : (pc offset : ℕ) → (text_start ≤ pc → offset ≡ pc - text_start) → text_start ≤ pc → 0 < pc % 4 → most_words ≤ offset % 4 * 2 ^ 30 + offset / 4
between pc offset near above odd = omega (arith, near above, odd)

at_word : (pc offset : ℕ) → (text_start ≤ pc → offset ≡ pc - text_start) → text_start ≤ pc → pc % 4 ≤ 0
    → (pc - text_start) / 4 ≡ offset % 4 * 2 ^ 30 + offset / 4
at_word pc offset near above even = omega (arith, near above, even)

pub fetched-turned : (text : List ℕ) (pc offset : ℕ) → length text ≤ most_words → (text_start ≤ pc → offset ≡ pc - text_start)
    → (pc < text_start → 4 * most_words ≤ offset) → slice_get text (offset % 4 * 2 ^ 30 + offset / 4) ≡ fetched text pc
fetched-turned text pc offset fits near far = go (nat_lt pc text_start) (nat_lt 0 (pc % 4)) refl refl
  where
    place : ℕ
    place = offset % 4 * 2 ^ 30 + offset / 4

    go : (a b : Bool) → nat_lt pc text_start ≡ a → nat_lt 0 (pc % 4) ≡ b
        → slice_get text place ≡ (if a || b then None else slice_get text ((pc - text_start) / 4))
    go true b ea eb = slice_get_past text place (omega (arith, fits, before pc offset far (ltb-true _ _ ea)))
    go false true ea eb = slice_get_past text place (omega (arith, fits, between pc offset near (ltb-false _ _ ea) (ltb-true _ _ eb)))
    go false false ea eb = ap (slice_get text) (sym (at_word pc offset near (ltb-false _ _ ea) (ltb-false _ _ eb)))

-- what is made of a lent element
pub lent : {X Y : Type 0} (f : X → Y) (xs : List X) (i : ℕ) (r : Option (Bor X)) → IsItemAt xs i r → option_map (λ x. f x.now) r ≡ option_map f (slice_get xs i)
lent f xs i None got = sym (ap (option_map f) (slice_get_past xs i (ltb-false i (length xs) (sym got.0))))
lent f xs i (Some x) got = sym (ap (option_map f) (slice_get_read xs (length xs) i x.now refl (ltb-true i (length xs) (sym got.0)) got.1))
