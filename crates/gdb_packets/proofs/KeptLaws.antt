-- How much of a body a reader keeps.
use Rattle.std.proofs.Common.{◌≡◌, ℕ, ◌+◌, ◌%◌, ◌≤◌, ◌==◌, nat_lt, cond, Bool, true, false, List, [], ◌∷◌, ◌++◌, length, refl, arith}
use Rattle.std.proofs.lemmas.List.{length-append}
use Rattle.gdb_packets.specs.declared.packet_reading.Stage.{Stage}
use Rattle.gdb_packets.specs.declared.packet_reading.Stage.TheVariants.{Outside, InData, BehindData, BehindDigit}
use Rattle.gdb_packets.specs.Packets.{Place, after, at, behind, kept, led}

by_test : (limit : ℕ) (body : List ℕ) (byte : ℕ) (test : Bool) → nat_lt limit (length body) ≡ test → length body ≤ limit + 1
    → length (cond test body (body ++ byte ∷ [])) ≤ limit + 1
by_test limit body byte true e few = few
by_test limit body byte false e few =
    let h : length body ≤ limit = grind (arith, e) in
    omega (arith, h, length-append body (byte ∷ []))

in_body : (limit : ℕ) (body : List ℕ) (number byte : ℕ) (test : Bool) → length body ≤ limit + 1
    → length (cond test (at BehindData body number) (at InData (kept limit body byte) ((number + byte) % 256))).body ≤ limit + 1
in_body limit body number byte true few = few
in_body limit body number byte false few = by_test limit body byte (nat_lt limit (length body)) refl few

kept_led : (limit byte : ℕ) (stage : Stage) (body : List ℕ) (number : ℕ) → length body ≤ limit + 1 → length (led limit byte stage body number).body ≤ limit + 1
kept_led limit byte Outside body number few = few
kept_led limit byte InData body number few = in_body limit body number byte (byte == 35) few
kept_led limit byte BehindData body number few = few
kept_led limit byte (BehindDigit first) body number few = omega arith

by_dollar : (limit byte : ℕ) (place : Place) (test : Bool) → length place.body ≤ limit + 1
    → length (cond test (at InData [] 0) (led limit byte place.stage place.body place.number)).body ≤ limit + 1
by_dollar limit byte place true few = omega arith
by_dollar limit byte place false few = kept_led limit byte place.stage place.body place.number few

kept_after : (limit : ℕ) (place : Place) (byte : ℕ) → length place.body ≤ limit + 1 → length (after limit place byte).body ≤ limit + 1
unfolding after
kept_after limit place byte few = by_dollar limit byte place (byte == 36) few

pub kept_behind : (limit : ℕ) (place : Place) (bytes : List ℕ) → length place.body ≤ limit + 1 → length (behind limit place bytes).body ≤ limit + 1
unfolding behind
kept_behind limit place [] few = few
kept_behind limit place (byte ∷ bytes) few = kept_behind limit (after limit place byte) bytes (kept_after limit place byte few)
