-- Two turns that race, and the first two of several that do.
use Rattle.std.proofs.Common.{◌≡◌, ◌≢◌, ◌∙◌, ◌+◌, ◌≤◌, ◌==◌, ℕ, zero, suc, Bool, false, true, refl, sym, ap, subst, arith}
use Rattle.std.proofs.Common.{List, [], ◌∷◌, ◌++◌, length, Option, Some, None, drop, get_or, take, ◌-◌}
use Rattle.std.proofs.Math.Seq.{take-length}
use Rattle.std.specs.Prelude.{if◌then◌else◌, slice_get}
use Rattle.std.proofs.lemmas.Bool.Decides.{nat_tests}
use Rattle.rv_insn.specs.declared.vector_operations.ElementWidth.{ElementWidth}
use Rattle.memory.specs.Access.{access_at, places_of, touched}
use Rattle.hart_core.specs.HartState.{HartState}
use Rattle.hart_core.specs.VectorRows.{accesses_at, size_of}
use Rattle.multi_hart.specs.Run.{is_in}
use Rattle.race_reports.specs.declared.found.RacingTurns.{RacingTurns}
use Rattle.race_reports.specs.Races.{first_other, first_shared, first_writer, is_shared, or_else, shared_by, told_by}

-- ---- bytes

-- where one is found, it is one of these, and shared
pub record IsFound (words read written places : List ℕ) (place : ℕ) : Type 0 where
  pub among : is_in place places ≡ true
  pub shared : is_shared words read written place ≡ true

same_place : (n : ℕ) → n == n ≡ true
same_place n = grind (arith, nat_tests)

in_more : (place first : ℕ) (places : List ℕ) → is_in place places ≡ true → is_in place (first ∷ places) ≡ true
in_more place first places is = go (place == first)
  where
    go : (b : Bool) → (if b then true else is_in place places) ≡ true
    go true = refl
    go false = is

in_first : (place : ℕ) (places : List ℕ) → is_in place (place ∷ places) ≡ true
in_first place places = ap (λ b. if b then true else is_in place places) (same_place place)

pub found_one : (words read written places : List ℕ) (place : ℕ) → first_shared words read written places ≡ Some place
    → IsFound words read written places place
found_one words read written [] place is = absurd cc
found_one words read written (first ∷ places) place is =
    by_test (is_shared words read written first) refl is (found_one words read written places place)
  where
    by_test : (b : Bool) → is_shared words read written first ≡ b
        → (if b then Some first else first_shared words read written places) ≡ Some place
        → (first_shared words read written places ≡ Some place → IsFound words read written places place)
        → IsFound words read written (first ∷ places) place
    by_test true shared e later =
        let same : first ≡ place = cc in
        subst (λ (p : ℕ). IsFound words read written (first ∷ places) p) same (record { among = in_first first places; shared = shared })
    by_test false shared e later =
        let rest = later e in
        record { among = in_more place first places rest.among; shared = rest.shared }

-- where none is found, none is shared
pub found_none : (words read written places : List ℕ) → first_shared words read written places ≡ None
    → (place : ℕ) → is_in place places ≡ true → is_shared words read written place ≡ false
found_none words read written [] is place among = absurd cc
found_none words read written (first ∷ places) is place among =
    by_test (is_shared words read written first) refl is (found_none words read written places)
  where
    by_place : is_shared words read written first ≡ false → (b : Bool) → place == first ≡ b → (if b then true else is_in place places) ≡ true
        → (is_in place places ≡ true → is_shared words read written place ≡ false) → is_shared words read written place ≡ false
    by_place unshared true same e later =
        let one : place ≡ first = grind (arith, nat_tests, same) in
        ap (is_shared words read written) one ∙ unshared
    by_place unshared false same e later = later e

    by_test : (b : Bool) → is_shared words read written first ≡ b
        → (if b then Some first else first_shared words read written places) ≡ None
        → (first_shared words read written places ≡ None → (p : ℕ) → is_in p places ≡ true → is_shared words read written p ≡ false)
        → is_shared words read written place ≡ false
    by_test true shared e later = absurd cc
    by_test false shared e later = by_place shared (place == first) refl among (later e place)

-- where none of these is shared, none is found
pub finds_none : (words read written places : List ℕ) → ((place : ℕ) → is_in place places ≡ true → is_shared words read written place ≡ false)
    → first_shared words read written places ≡ None
finds_none words read written [] unshared = refl
finds_none words read written (first ∷ places) unshared =
    ap (λ b. if b then Some first else first_shared words read written places) (unshared first (in_first first places))
    ∙ finds_none words read written places (λ place among. unshared place (in_more place first places among))

-- one list after the other
abbrev pub either_of : Option ℕ → Option ℕ → Option ℕ
either_of None later = later
either_of (Some place) later = Some place

pub found_in_both : (words read written xs ys : List ℕ) → first_shared words read written (xs ++ ys)
    ≡ either_of (first_shared words read written xs) (first_shared words read written ys)
found_in_both words read written [] ys = refl
found_in_both words read written (x ∷ xs) ys =
    one_more (is_shared words read written x) (first_shared words read written (xs ++ ys)) (first_shared words read written xs) (found_in_both words read written xs ys)
  where
    one_more : (b : Bool) (m l : Option ℕ) → m ≡ either_of l (first_shared words read written ys)
        → (if b then Some x else m) ≡ either_of (if b then Some x else l) (first_shared words read written ys)
    one_more true m l e = refl
    one_more false m l e = e

-- ---- all harts

told_none : (writer other : ℕ) (o : Option ℕ) → told_by writer other o ≡ None → o ≡ None
told_none writer other None e = refl
told_none writer other (Some byte) e = absurd cc

either_none : (a b : Option RacingTurns) → or_else a b ≡ None → (a ≡ None) × (b ≡ None)
either_none None b e = (refl, e)
either_none (Some told) b e = absurd cc

-- where none is told, the writer shares no byte with any of the harts
pub others_none : (words text : List ℕ) (bytes writer : ℕ) (one : HartState) (number : ℕ) (others : List HartState)
    → first_other words text bytes writer one number others ≡ None
    → (k : ℕ) (other : HartState) → slice_get others k ≡ Some other → writer ≢ number + k → shared_by words text bytes one other ≡ None
others_none words text bytes writer one number [] none k other got apart = absurd cc
others_none words text bytes writer one number (first ∷ others) none zero other got apart =
    let both = either_none (if writer == number then None else told_by writer number (shared_by words text bytes one first))
    (first_other words text bytes writer one (number + 1) others) none in
    let here : first ≡ other = cc in
    let differs : (writer == number) ≡ false = grind (arith, nat_tests, apart) in
    let told : told_by writer number (shared_by words text bytes one first) ≡ None =
    sym (ap (λ b. if b then None else told_by writer number (shared_by words text bytes one first)) differs) ∙ both.0 in
    ap (shared_by words text bytes one) (sym here) ∙ told_none writer number (shared_by words text bytes one first) told
others_none words text bytes writer one number (first ∷ others) none (suc k) other got apart =
    let both = either_none (if writer == number then None else told_by writer number (shared_by words text bytes one first))
    (first_other words text bytes writer one (number + 1) others) none in
    others_none words text bytes writer one (number + 1) others both.1 k other got (λ same. apart (omega (arith, same)))

-- where it shares none with any, none is told
pub none_of_others : (words text : List ℕ) (bytes writer : ℕ) (one : HartState) (number : ℕ) (others : List HartState)
    → ((k : ℕ) (other : HartState) → slice_get others k ≡ Some other → writer ≢ number + k → shared_by words text bytes one other ≡ None)
    → first_other words text bytes writer one number others ≡ None
none_of_others words text bytes writer one number [] known = refl
none_of_others words text bytes writer one number (first ∷ others) known =
    ap (λ o. or_else o (first_other words text bytes writer one (number + 1) others)) (by_test (writer == number) refl)
    ∙ none_of_others words text bytes writer one (number + 1) others (λ k other got apart. known (suc k) other got (λ same. apart (omega (arith, same))))
  where
    by_test : (b : Bool) → writer == number ≡ b → (if b then None else told_by writer number (shared_by words text bytes one first)) ≡ None
    by_test true same = refl
    by_test false differs =
        ap (told_by writer number) (known 0 first refl (λ same. (let equal : (writer == number) ≡ true = grind (arith, nat_tests, same) in
        (let clash : true ≡ false = sym equal ∙ differs in absurd cc))))

-- a race that is told: the other hart, which shares the byte
pub record IsToldOther (words text : List ℕ) (bytes writer : ℕ) (one : HartState) (number : ℕ) (others : List HartState) (told : RacingTurns) : Type 0 where
  pub k : ℕ
  pub other : HartState
  pub there : slice_get others k ≡ Some other
  pub number_is : told.other ≡ number + k
  pub writer_is : told.writer ≡ writer
  pub apart : writer ≢ number + k
  pub shares : shared_by words text bytes one other ≡ Some told.byte

pub record IsTold (writer other : ℕ) (o : Option ℕ) (told : RacingTurns) : Type 0 where
  pub writer_is : told.writer ≡ writer
  pub other_is : told.other ≡ other
  pub byte_is : o ≡ Some told.byte

told_some : (writer other : ℕ) (o : Option ℕ) (told : RacingTurns) → told_by writer other o ≡ Some told → IsTold writer other o told
told_some writer other None told e = absurd cc
told_some writer other (Some byte) told e =
    let same : (record { writer = writer; other = other; byte = byte }) ≡ told = cc in
    record {
      writer_is = ap (λ (t : RacingTurns). t.writer) (sym same);
      other_is = ap (λ (t : RacingTurns). t.other) (sym same);
      byte_is = ap (λ (t : RacingTurns). Some t.byte) same;
    }

pub others_some : (words text : List ℕ) (bytes writer : ℕ) (one : HartState) (number : ℕ) (others : List HartState) (told : RacingTurns)
    → first_other words text bytes writer one number others ≡ Some told → IsToldOther words text bytes writer one number others told
others_some words text bytes writer one number [] told is = absurd cc
others_some words text bytes writer one number (first ∷ others) told is =
    by_test (writer == number) refl is (others_some words text bytes writer one (number + 1) others told)
  where
    later_one : IsToldOther words text bytes writer one (number + 1) others told → IsToldOther words text bytes writer one number (first ∷ others) told
    later_one t = record {
      k = suc t.k;
      other = t.other;
      there = t.there;
      number_is = (let e = t.number_is in omega (arith, e));
      writer_is = t.writer_is;
      apart = (let differs = t.apart in λ same. differs (omega (arith, same)));
      shares = t.shares;
    }

    by_found : (o : Option ℕ) → shared_by words text bytes one first ≡ o → writer == number ≡ false
        → or_else (told_by writer number o) (first_other words text bytes writer one (number + 1) others) ≡ Some told
        → (first_other words text bytes writer one (number + 1) others ≡ Some told → IsToldOther words text bytes writer one (number + 1) others told)
        → IsToldOther words text bytes writer one number (first ∷ others) told
    by_found None shares differs e later = later_one (later e)
    by_found (Some byte) shares differs e later =
        let t = told_some writer number (Some byte) told e in
        record {
          k = 0;
          other = first;
          there = refl;
          number_is = (let is = t.other_is in omega (arith, is));
          writer_is = t.writer_is;
          apart = λ same. (let equal : (writer == number) ≡ true = grind (arith, nat_tests, same) in
              (let clash : true ≡ false = sym equal ∙ differs in absurd cc));
          shares = shares ∙ t.byte_is;
        }

    by_test : (b : Bool) → writer == number ≡ b
        → or_else (if b then None else told_by writer number (shared_by words text bytes one first))
        (first_other words text bytes writer one (number + 1) others) ≡ Some told
        → (first_other words text bytes writer one (number + 1) others ≡ Some told → IsToldOther words text bytes writer one (number + 1) others told)
        → IsToldOther words text bytes writer one number (first ∷ others) told
    by_test true same e later = later_one (later e)
    by_test false differs e later = by_found (shared_by words text bytes one first) refl differs e later

-- ---- writers

pub writers_none : (words text : List ℕ) (bytes : ℕ) (harts : List HartState) (number : ℕ) (ones : List HartState)
    → first_writer words text bytes harts number ones ≡ None
    → (k : ℕ) (one : HartState) → slice_get ones k ≡ Some one → first_other words text bytes (number + k) one 0 harts ≡ None
writers_none words text bytes harts number [] none k one got = absurd cc
writers_none words text bytes harts number (first ∷ ones) none zero one got =
    let both = either_none (first_other words text bytes number first 0 harts) (first_writer words text bytes harts (number + 1) ones) none in
    let here : first ≡ one = cc in
    let same : number + 0 ≡ number = omega arith in
    ap (λ (n : ℕ). first_other words text bytes n one 0 harts) same
    ∙ ap (λ (h : HartState). first_other words text bytes number h 0 harts) (sym here) ∙ both.0
writers_none words text bytes harts number (first ∷ ones) none (suc k) one got =
    let both = either_none (first_other words text bytes number first 0 harts) (first_writer words text bytes harts (number + 1) ones) none in
    let same : number + suc k ≡ number + 1 + k = omega arith in
    ap (λ (n : ℕ). first_other words text bytes n one 0 harts) same ∙ writers_none words text bytes harts (number + 1) ones both.1 k one got

pub none_of_writers : (words text : List ℕ) (bytes : ℕ) (harts : List HartState) (number : ℕ) (ones : List HartState)
    → ((k : ℕ) (one : HartState) → slice_get ones k ≡ Some one → first_other words text bytes (number + k) one 0 harts ≡ None)
    → first_writer words text bytes harts number ones ≡ None
none_of_writers words text bytes harts number [] known = refl
none_of_writers words text bytes harts number (first ∷ ones) known =
    let here : number + 0 ≡ number = omega arith in
    ap (λ o. or_else o (first_writer words text bytes harts (number + 1) ones))
    (sym (ap (λ (n : ℕ). first_other words text bytes n first 0 harts) here) ∙ known 0 first refl)
    ∙ none_of_writers words text bytes harts (number + 1) ones (λ k one got.
    (let same : number + 1 + k ≡ number + suc k = omega arith in
    ap (λ (n : ℕ). first_other words text bytes n one 0 harts) same ∙ known (suc k) one got))

pub record IsToldWriter (words text : List ℕ) (bytes : ℕ) (harts : List HartState) (number : ℕ) (ones : List HartState) (told : RacingTurns) : Type 0 where
  pub k : ℕ
  pub one : HartState
  pub there : slice_get ones k ≡ Some one
  pub tells : first_other words text bytes (number + k) one 0 harts ≡ Some told

pub writers_some : (words text : List ℕ) (bytes : ℕ) (harts : List HartState) (number : ℕ) (ones : List HartState) (told : RacingTurns)
    → first_writer words text bytes harts number ones ≡ Some told → IsToldWriter words text bytes harts number ones told
writers_some words text bytes harts number [] told is = absurd cc
writers_some words text bytes harts number (first ∷ ones) told is =
    by_other (first_other words text bytes number first 0 harts) refl is (writers_some words text bytes harts (number + 1) ones told)
  where
    by_other : (o : Option RacingTurns) → first_other words text bytes number first 0 harts ≡ o
        → or_else o (first_writer words text bytes harts (number + 1) ones) ≡ Some told
        → (first_writer words text bytes harts (number + 1) ones ≡ Some told → IsToldWriter words text bytes harts (number + 1) ones told)
        → IsToldWriter words text bytes harts number (first ∷ ones) told
    by_other None none e later =
        let t = later e in
        let same : number + suc t.k ≡ number + 1 + t.k = omega arith in
        record {
          k = suc t.k;
          one = t.one;
          there = t.there;
          tells = ap (λ (n : ℕ). first_other words text bytes n t.one 0 harts) same ∙ t.tells;
        }
    by_other (Some other) some e later =
        let here : number + 0 ≡ number = omega arith in
        record {
          k = 0;
          one = first;
          there = refl;
          tells = ap (λ (n : ℕ). first_other words text bytes n first 0 harts) here ∙ some ∙ e;
        }

-- ---- numbers of one width at addresses

-- the first number has none that is shared, and those after it this one, if any
pub numbers_then : (words read written : List ℕ) (width : ElementWidth) (addresses : List ℕ) (later : Option ℕ) → 1 ≤ length addresses
    → first_shared words read written (places_of (access_at (size_of width) (get_or addresses 0 0))) ≡ None
    → first_shared words read written (touched (accesses_at width (take (length addresses - 1) (drop 1 addresses)))) ≡ later
    → first_shared words read written (touched (accesses_at width addresses)) ≡ later
numbers_then words read written width [] later some here rest = absurd (omega (arith, some))
numbers_then words read written width (address ∷ addresses) later some here rest =
    found_in_both words read written (places_of (access_at (size_of width) address)) (touched (accesses_at width addresses))
    ∙ ap (λ o. either_of o (first_shared words read written (touched (accesses_at width addresses)))) here
    ∙ ap (λ (l : List ℕ). first_shared words read written (touched (accesses_at width l))) (sym rest_is) ∙ rest
  where
    rest_is : take (suc (length addresses) - 1) addresses ≡ addresses
    rest_is = let one : suc (length addresses) - 1 ≡ length addresses = omega arith in ap (λ n. take n addresses) one ∙ take-length addresses
