-- What bytes say up to the end of a frame.
use Rattle.std.proofs.Common.{◌≡◌, ◌≢◌, ℕ, ◌+◌, ◌%◌, ◌≤◌, ◌==◌, nat_lt, Bool, true, false, List, [], ◌∷◌, ◌++◌, length, take}
use Rattle.std.proofs.Common.{Option, None, Some, refl, ap, sym, ◌∙◌, append_assoc, arith, sum}
use Rattle.std.proofs.lemmas.List.{append-nil, length-append, length-take-le, take-append-le, take_all}
use Rattle.std.proofs.lemmas.List.Sums.{fold-append}
use Rattle.std.proofs.Math.Nat.{mod-add-mod}
use Rattle.gdb_packets.specs.declared.packet_reading.Stage.TheVariants.{InData, BehindData, BehindDigit}
use Rattle.gdb_packets.specs.Packets.{Place, Reading, at, outside, led, told, after, reading, readings, behind, before, kept, said, meaning, check_sum, IsBody}

-- bytes in two pieces
before-append : (one : Option Reading) (some others : List Reading) → before one (some ++ others) ≡ before one some ++ others
before-append None some others = refl
before-append (Some reading) some others = refl

pub readings-append : (limit : ℕ) (place : Place) (first second : List ℕ)
    → readings limit place (first ++ second) ≡ readings limit place first ++ readings limit (behind limit place first) second
unfolding readings behind
readings-append limit place [] second = refl
readings-append limit place (byte ∷ first) second =
    ap (before (reading limit place byte)) (readings-append limit (after limit place byte) first second)
    ∙ before-append (reading limit place byte) _ _

pub behind-append : (limit : ℕ) (place : Place) (first second : List ℕ) → behind limit place (first ++ second) ≡ behind limit (behind limit place first) second
unfolding behind
behind-append limit place [] second = refl
behind-append limit place (byte ∷ first) second = behind-append limit (after limit place byte) first second

-- a byte other than `$`
goes : (limit : ℕ) (place : Place) (byte : ℕ) (bytes : List ℕ) → byte ≢ 36
    → readings limit place (byte ∷ bytes)
    ≡ before (told limit byte place.stage place.body place.number) (readings limit (led limit byte place.stage place.body place.number) bytes)
unfolding readings reading after
goes limit place byte bytes other = let e : (byte == 36) ≡ false = grind arith in rw e refl

-- `$`
opens : (limit : ℕ) (place : Place) (bytes : List ℕ) → readings limit place (36 ∷ bytes) ≡ readings limit (at InData [] 0) bytes
unfolding readings reading after
opens limit place bytes = refl

-- ---- the body

kept_long : (limit : ℕ) (raw : List ℕ) (byte : ℕ) → limit + 1 ≤ length raw → kept limit (take (limit + 1) raw) byte ≡ take (limit + 1) (raw ++ byte ∷ [])
kept_long limit raw byte h =
    let e = length-take-le (limit + 1) raw h in
    let test : nat_lt limit (length (take (limit + 1) raw)) ≡ true = rw e (grind arith) in
    rw test (sym (take-append-le (limit + 1) raw (byte ∷ []) h))

kept_short : (limit : ℕ) (raw : List ℕ) (byte : ℕ) → length raw ≤ limit → kept limit (take (limit + 1) raw) byte ≡ take (limit + 1) (raw ++ byte ∷ [])
kept_short limit raw byte h =
    let whole : take (limit + 1) raw ≡ raw = take_all (limit + 1) raw (omega (arith, h)) in
    let test : nat_lt limit (length raw) ≡ false = grind (arith, h) in
    rw (whole, test) (sym (take_all (limit + 1) (raw ++ byte ∷ []) (omega (arith, h, length-append raw (byte ∷ [])))))

kept_more : (limit : ℕ) (raw : List ℕ) (byte : ℕ) → kept limit (take (limit + 1) raw) byte ≡ take (limit + 1) (raw ++ byte ∷ [])
kept_more limit raw byte = by_test (nat_lt limit (length raw)) refl
  where
    by_test : (test : Bool) → nat_lt limit (length raw) ≡ test → kept limit (take (limit + 1) raw) byte ≡ take (limit + 1) (raw ++ byte ∷ [])
    by_test true e = kept_long limit raw byte (grind (arith, e))
    by_test false e = kept_short limit raw byte (grind (arith, e))

sum_more : (raw : List ℕ) (byte : ℕ) → (check_sum raw + byte) % 256 ≡ check_sum (raw ++ byte ∷ [])
sum_more raw byte =
    mod-add-mod (sum raw) 256 byte ∙ ap (λ n. n % 256) (sym (fold-append (λ a x. a + x) 0 raw (byte ∷ [])))

-- one more byte of a body
takes : (limit : ℕ) (raw : List ℕ) (byte : ℕ) (bytes : List ℕ) → byte ≢ 35 → byte ≢ 36
    → readings limit (at InData (take (limit + 1) raw) (check_sum raw)) (byte ∷ bytes)
    ≡ readings limit (at InData (take (limit + 1) (raw ++ byte ∷ [])) (check_sum (raw ++ byte ∷ []))) bytes
takes limit raw byte bytes no_end no_start =
    let e : (byte == 35) ≡ false = grind arith in
    goes limit (at InData (take (limit + 1) raw) (check_sum raw)) byte bytes no_start
    ∙ rw (e, kept_more limit raw byte, sum_more raw byte) refl

body_read : (limit : ℕ) (raw body rest : List ℕ) → IsBody body
    → readings limit (at InData (take (limit + 1) raw) (check_sum raw)) (body ++ rest)
    ≡ readings limit (at InData (take (limit + 1) (raw ++ body)) (check_sum (raw ++ body))) rest
body_read limit raw [] rest is = rw (append-nil raw) refl
body_read limit raw (byte ∷ body) rest is =
    let e : (raw ++ byte ∷ []) ++ body ≡ raw ++ byte ∷ body = append_assoc raw (byte ∷ []) body in
    takes limit raw byte (body ++ rest) is.0.0 is.0.1 ∙ rw (sym e) (body_read limit (raw ++ byte ∷ []) body rest is.1)

-- ---- its end

said_by_test : (limit : ℕ) (body : List ℕ) (first second : ℕ) (test : Bool) → nat_lt limit (length body) ≡ test
    → said limit (take (limit + 1) body) (check_sum body) first second ≡ meaning limit body first second
said_by_test limit body first second true e =
    let h : limit + 1 ≤ length body = grind (arith, e) in
    let l = length-take-le (limit + 1) body h in
    let test : nat_lt limit (length (take (limit + 1) body)) ≡ true = rw l (grind arith) in
    rw (test, e) refl
said_by_test limit body first second false e =
    let whole : take (limit + 1) body ≡ body = take_all (limit + 1) body (grind (arith, e)) in
    rw whole refl

end_read : (limit : ℕ) (body : List ℕ) (number first second : ℕ) (rest : List ℕ) → first ≢ 36 → second ≢ 36
    → readings limit (at InData body number) (35 ∷ first ∷ second ∷ rest) ≡ said limit body number first second ∷ readings limit outside rest
end_read limit body number first second rest f s =
    goes limit (at InData body number) 35 (first ∷ second ∷ rest) (omega arith)
    ∙ goes limit (at BehindData body number) first (second ∷ rest) f
    ∙ goes limit (at (BehindDigit first) body number) second rest s

pub frame_read : (limit : ℕ) (place : Place) (body : List ℕ) (first second : ℕ) (rest : List ℕ) → IsBody body → first ≢ 36 → second ≢ 36
    → readings limit place (36 ∷ body ++ 35 ∷ first ∷ second ∷ rest) ≡ meaning limit body first second ∷ readings limit outside rest
frame_read limit place body first second rest is f s =
    opens limit place (body ++ 35 ∷ first ∷ second ∷ rest)
    ∙ ap (λ (none : List ℕ). readings limit (at InData none 0) (body ++ 35 ∷ first ∷ second ∷ rest)) (sym (take_all (limit + 1) [] (omega arith)))
    ∙ body_read limit [] body (35 ∷ first ∷ second ∷ rest) is
    ∙ end_read limit (take (limit + 1) body) (check_sum body) first second rest f s
    ∙ ap (λ (one : Reading). one ∷ readings limit outside rest) (said_by_test limit body first second (nat_lt limit (length body)) refl)
