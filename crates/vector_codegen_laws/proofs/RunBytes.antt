-- Points that are one run may be written in one turn, and what a phase's rule says of the places that one turn writes.
use Rattle.std.proofs.Common.{◌≡◌, ℕ, zero, suc, ◌+◌, ◌-◌, ◌*◌, ◌<◌, List, [], ◌∷◌, length, map, true, false, Bool, cond, refl, ap, ◌∙◌, sym, subst, arith, inl}
use Rattle.std.proofs.Common.{inr, true≢false}
use Rattle.std.specs.Prelude.{◌⊎◌, ◌==◌, ◌&&◌, ◌||◌, nat_le, nat_lt, slice_index_or, if◌then◌else◌, Option}
use Rattle.std.specs.List.{Contains, list_all, list_any}
use Rattle.std.proofs.lemmas.Bool.{and_parts, and_from, cases_eq, eq-eqb, ne_eqb, eqb-true, leb-true, ltb-true, le-leb, lt-ltb}
use Rattle.memory.specs.Access.{Word, access_at, touched}
use Rattle.halide_pipeline.specs.declared.expressions.Source.TheVariants as sources
use Rattle.halide_pipeline.specs.Pipelines.{Pipeline}
use Rattle.halide_pipeline.specs.Pixel.{Planes}
use Rattle.halide_pipeline.specs.Points.{Point}
use Rattle.schedule.specs.declared.schedules.Schedule.{Schedule}
use Rattle.schedule_loops.specs.Visits.{Visit, is_slice}
use Rattle.bounds.specs.declared.boxes.SourceBox.{SourceBox}
use Rattle.loop_ir.specs.Buffers.{Points}
use Rattle.multi_hart_laws.specs.Uses.{Owned, Private}
use Rattle.multi_hart_laws.specs.Alone.{Keeps}
use Rattle.multi_hart.specs.Run.{is_in}
use Rattle.multi_hart_laws.specs.LaneMemory.{firsts, accesses_to}
use Rattle.task_code_scalar.specs.declared.layouts.BufferLayout.{BufferLayout}
use Rattle.task_code_scalar.specs.Code.{place_of, pixel_bytes, address}
use Rattle.task_code_scalar.specs.Doing.{AreRun}
use Rattle.task_code_lanes.proofs.StoredRows.{in-places}
use Rattle.vector_codegen_laws.specs.Points.{RootPoint, address_at}
use Rattle.vector_codegen_laws.specs.RunBytes.{has_word, is_byte_of, is_run, rule_of, RulesSayRuns, IsNamed, RunsAreNamed}
use Rattle.vector_codegen_laws.specs.Runs.{IsByteOf}
use Rattle.vector_codegen_laws.specs.Settings.{places, uses, task_world, IsWritten}
use Rattle.vector_codegen_laws.specs.Held.{setting, IsTask, TasksMayWriteRuns}
use Rattle.vector_codegen_laws.specs.Uses.{Owners}
use Rattle.vector_codegen_laws.proofs.Laying.{copy-byte}
use Rattle.vector_codegen_laws.proofs.There.{root-place}

-- ---- lists

record Found {A : Type 0} (test : A → Bool) (xs : List A) : Type 0 where
  one : A
  there : Contains xs one
  passes : test one ≡ true

found : {A : Type 0} (test : A → Bool) (xs : List A) → list_any test xs ≡ true → Found test xs
found test [] e = absurd (true≢false (sym e))
found {A} test (x ∷ xs) e = by-test (test x) refl e (found test xs)
  where
    by-test : (b : Bool) → test x ≡ b → (b || list_any test xs) ≡ true → (list_any test xs ≡ true → Found test xs) → Found test (x ∷ xs)
    by-test true is f later = record { one = x; there = (0, omega arith, refl); passes = is }
    by-test false is f later =
        let l = later f in
        let below = l.there.1 in
        record { one = l.one; there = (suc l.there.0, omega (arith, below), l.there.2); passes = l.passes }

some-passes : {A : Type 0} (test : A → Bool) (x : A) → test x ≡ true → (xs : List A) (k : ℕ) → k < length xs → slice_index_or xs k x ≡ x
    → list_any test xs ≡ true
some-passes test x is [] k l e = absurd (omega (arith, l))
some-passes test x is (y ∷ xs) zero l e = ap (λ (b : Bool). b || list_any test xs) (ap test e ∙ is)
some-passes test x is (y ∷ xs) (suc k) l e = or-true (test y) (list_any test xs) (some-passes test x is xs k (omega (arith, l)) e)
  where
    or-true : (a b : Bool) → b ≡ true → (a || b) ≡ true
    or-true true b f = refl
    or-true false b f = f

pub any-given : {A : Type 0} (test : A → Bool) (xs : List A) (x : A) → Contains xs x → test x ≡ true → list_any test xs ≡ true
any-given test xs x there is = some-passes test x is xs there.0 there.1 there.2

all-given : {A : Type 0} (test : A → Bool) (xs : List A) → ((x : A) → Contains xs x → test x ≡ true) → list_all test xs ≡ true
all-given test [] each = refl
all-given test (x ∷ xs) each =
    and_from (test x) (list_all test xs) (each x (0, omega arith, refl))
    (all-given test xs (λ y there. let below = there.1 in each y (suc there.0, omega (arith, below), there.2)))

at-place : {A : Type 0} (test : A → Bool) (x : A) (xs : List A) → list_all test xs ≡ true → (k : ℕ) → k < length xs → slice_index_or xs k x ≡ x → test x ≡ true
at-place test x [] all k l e = absurd (omega (arith, l))
at-place test x (y ∷ xs) all zero l e = ap test (sym e) ∙ (and_parts (test y) (list_all test xs) all).0
at-place test x (y ∷ xs) all (suc k) l e = at-place test x xs (and_parts (test y) (list_all test xs) all).1 k (omega (arith, l)) e

all-taken : {A : Type 0} (test : A → Bool) (xs : List A) (x : A) → list_all test xs ≡ true → Contains xs x → test x ≡ true
all-taken test xs x all there = at-place test x xs all there.0 there.1 there.2

-- ---- places

in-first : (p q : ℕ) (rest : Bool) → p ≡ q → cond (p == q) true rest ≡ true
in-first p q rest e = ap (λ (b : Bool). cond b true rest) (eq-eqb p q e)

in-later : (b rest : Bool) → rest ≡ true → cond b true rest ≡ true
in-later true rest e = refl
in-later false rest e = e

past : (p q : ℕ) (rest : Bool) → (p ≡ q → ⊥) → cond (p == q) true rest ≡ true → rest ≡ true
past p q rest d e = sym (ap (λ (b : Bool). cond b true rest) (ne_eqb p q d)) ∙ e

places-pass : (test : ℕ → Bool) (ps : List ℕ) → ((p : ℕ) → is_in p ps ≡ true → test p ≡ true) → list_all test ps ≡ true
places-pass test [] each = refl
places-pass test (q ∷ ps) each =
    and_from (test q) (list_all test ps) (each q (in-first q q (is_in q ps) refl)) (places-pass test ps (λ p i. each p (in-later (p == q) (is_in p ps) i)))

place-passes : (test : ℕ → Bool) (ps : List ℕ) (p : ℕ) → list_all test ps ≡ true → is_in p ps ≡ true → test p ≡ true
place-passes test [] p all i = absurd (true≢false (sym i))
place-passes test (q ∷ ps) p all i =
    let both = and_parts (test q) (list_all test ps) all in
    elim (cases_eq p q) [
      | inl e ↦ ap test e ∙ both.0
      | inr d ↦ place-passes test ps p both.1 (past p q (is_in p ps) d i)
    ]

-- a byte of the word at an address
record ByteAt (a p : ℕ) : Type 0 where
  byte : ℕ
  small : byte < 4
  is : p ≡ a + byte

one-word : (p a : ℕ) (rest : Bool) → cond (p == a) true (cond (p == a + 1) true (cond (p == a + 2) true (cond (p == a + 3) true rest))) ≡ true
    → ByteAt a p ⊎ (rest ≡ true)
one-word p a rest e = elim (cases_eq p a) [
  | inl q ↦ inl (record { byte = 0; small = omega arith; is = omega (arith, q) })
  | inr d0 ↦ elim (cases_eq p (a + 1)) [
    | inl q ↦ inl (record { byte = 1; small = omega arith; is = q })
    | inr d1 ↦ elim (cases_eq p (a + 2)) [
      | inl q ↦ inl (record { byte = 2; small = omega arith; is = q })
      | inr d2 ↦ elim (cases_eq p (a + 3)) [
        | inl q ↦ inl (record { byte = 3; small = omega arith; is = q })
        | inr d3 ↦
            let r1 = past p a (cond (p == a + 1) true (cond (p == a + 2) true (cond (p == a + 3) true rest))) d0 e in
            let r2 = past p (a + 1) (cond (p == a + 2) true (cond (p == a + 3) true rest)) d1 r1 in
            let r3 = past p (a + 2) (cond (p == a + 3) true rest) d2 r2 in
            inr (past p (a + 3) rest d3 r3)
      ]
    ]
  ]
]

-- a byte of one of this many words
record InWords (a : ℕ → ℕ) (i n p : ℕ) : Type 0 where
  k : ℕ
  below : k < i + n
  byte : ℕ
  small : byte < 4
  is : p ≡ a k + byte

in-words : (a : ℕ → ℕ) (i n p : ℕ) → is_in p (touched (map (access_at Word) (firsts i n a))) ≡ true → InWords a i n p
in-words a i zero p e = absurd (true≢false (sym e))
in-words a i (suc n) p e = elim (one-word p (a i) (is_in p (touched (map (access_at Word) (firsts (suc i) n a)))) e) [
  | inl b ↦ record { k = i; below = omega arith; byte = b.byte; small = b.small; is = b.is }
  | inr r ↦ let w = in-words a (suc i) n p r in let below = w.below in record {
    k = w.k;
    below = omega (arith, below);
    byte = w.byte;
    small = w.small;
    is =
        w.is;
  }
]

-- ---- the test of a run

four-bytes : (places : List ℕ) (address : ℕ) → ((byte : ℕ) → byte < 4 → is_in (address + byte) places ≡ true) → has_word places address ≡ true
four-bytes places address each =
    let e : address + 0 ≡ address = omega arith in
    and_from (is_in address places) (is_in (address + 1) places && (is_in (address + 2) places && is_in (address + 3) places)) (ap (λ p. is_in p places) (sym e)
    ∙ each 0 (omega arith))
    (and_from (is_in (address + 1) places) (is_in (address + 2) places && is_in (address + 3) places) (each 1 (omega arith))
    (and_from (is_in (address + 2) places) (is_in (address + 3) places) (each 2 (omega arith)) (each 3 (omega arith))))

each-byte : (places : List ℕ) (address : ℕ) → has_word places address ≡ true → (byte : ℕ) → byte < 4 → is_in (address + byte) places ≡ true
each-byte places address has zero l =
    let e : address + 0 ≡ address = omega arith in
    ap (λ p. is_in p places) e ∙ (and_parts (is_in address places) (is_in (address + 1) places && (is_in (address + 2) places && is_in (address + 3) places))
    has).0
each-byte places address has (suc zero) l =
    let r = (and_parts (is_in address places) (is_in (address + 1) places && (is_in (address + 2) places && is_in (address + 3) places)) has).1 in
    (and_parts (is_in (address + 1) places) (is_in (address + 2) places && is_in (address + 3) places) r).0
each-byte places address has (suc (suc zero)) l =
    let r = (and_parts (is_in address places) (is_in (address + 1) places && (is_in (address + 2) places && is_in (address + 3) places)) has).1 in
    let s = (and_parts (is_in (address + 1) places) (is_in (address + 2) places && is_in (address + 3) places) r).1 in
    (and_parts (is_in (address + 2) places) (is_in (address + 3) places) s).0
each-byte places address has (suc (suc (suc zero))) l =
    let r = (and_parts (is_in address places) (is_in (address + 1) places && (is_in (address + 2) places && is_in (address + 3) places)) has).1 in
    let s = (and_parts (is_in (address + 1) places) (is_in (address + 2) places && is_in (address + 3) places) r).1 in
    (and_parts (is_in (address + 2) places) (is_in (address + 3) places) s).1
each-byte places address has (suc (suc (suc (suc byte)))) l = absurd (omega (arith, l))

-- what a visit's point is
is-there : (x y : ℕ) (visit : Visit) → is_slice x y visit ≡ true → (visit.x ≡ x) × (visit.y ≡ y)
is-there x y visit e = let both = and_parts (visit.x == x) (visit.y == y) e in (eqb-true visit.x x both.0, eqb-true visit.y y both.1)

itself : (visit : Visit) → is_slice visit.x visit.y visit ≡ true
itself visit = and_from (visit.x == visit.x) (visit.y == visit.y) (eq-eqb visit.x visit.x refl) (eq-eqb visit.y visit.y refl)

module _ (at : ℕ → ℕ → ℕ) (visits : List Visit) (places : List ℕ) where
  pub run-given : ((visit : Visit) → Contains visits visit → (byte : ℕ) → byte < 4 → is_in (at visit.x visit.y + byte) places ≡ true)
      → ((place : ℕ) → is_in place places ≡ true → IsByteOf at visits place) → is_run at places visits ≡ true
  run-given all no_other =
      and_from (list_all (λ visit. has_word places (at visit.x visit.y)) visits) (list_all (is_byte_of at visits) places)
      (all-given (λ (visit : Visit). has_word places (at visit.x visit.y)) visits (λ visit there. four-bytes places (at visit.x visit.y) (all visit there)))
      (places-pass (is_byte_of at visits) places (λ place i. is-byte place (no_other place i)))
    where
      is-byte : (place : ℕ) → IsByteOf at visits place → is_byte_of at visits place ≡ true
      is-byte place b =
          let f = found (is_slice b.x b.y) visits b.visited in
          let same = is-there b.x b.y f.one f.passes in
          let here : at f.one.x f.one.y ≡ at b.x b.y = ap (λ n. at n f.one.y) same.0 ∙ ap (at b.x) same.1 in
          let is = b.is in
          let small = b.small in
          any-given (λ (visit : Visit). nat_le (at visit.x visit.y) place && nat_lt place (at visit.x visit.y + 4)) visits f.one f.there
          (and_from (nat_le (at f.one.x f.one.y) place) (nat_lt place (at f.one.x f.one.y + 4)) (le-leb (at f.one.x f.one.y) place (omega (arith, here, is)))
          (lt-ltb place (at f.one.x f.one.y + 4) (omega (arith, here, is, small))))

  module _ (is : is_run at places visits ≡ true) where
    abbrev both : (list_all (λ visit. has_word places (at visit.x visit.y)) visits ≡ true) × (list_all (is_byte_of at visits) places ≡ true)
    both = and_parts (list_all (λ visit. has_word places (at visit.x visit.y)) visits) (list_all (is_byte_of at visits) places) is

    pub run-all : (x y byte : ℕ) → list_any (is_slice x y) visits ≡ true → byte < 4 → is_in (at x y + byte) places ≡ true
    run-all x y byte visited small =
        let f = found (is_slice x y) visits visited in
        let same = is-there x y f.one f.passes in
        let here : at f.one.x f.one.y ≡ at x y = ap (λ n. at n f.one.y) same.0 ∙ ap (at x) same.1 in
        ap (λ a. is_in (a + byte) places) (sym here)
        ∙ each-byte places (at f.one.x f.one.y) (all-taken (λ (visit : Visit). has_word places (at visit.x visit.y)) visits f.one both.0 f.there) byte small

    pub run-no-other : (place : ℕ) → is_in place places ≡ true → IsByteOf at visits place
    run-no-other place i =
        let f = found (λ (visit : Visit). nat_le (at visit.x visit.y) place && nat_lt place (at visit.x visit.y + 4)) visits
        (place-passes (is_byte_of at visits) places place both.1 i) in
        let ends = and_parts (nat_le (at f.one.x f.one.y) place) (nat_lt place (at f.one.x f.one.y + 4)) f.passes in
        let low = leb-true (at f.one.x f.one.y) place ends.0 in
        let high = ltb-true place (at f.one.x f.one.y + 4) ends.1 in
        record {
          x = f.one.x;
          y = f.one.y;
          byte = place - at f.one.x f.one.y;
          visited = any-given (is_slice f.one.x f.one.y) visits f.one f.there (itself f.one);
          small = omega (arith, low, high);
          is = omega (arith, low);
        }

pub rules-say-runs : RulesSayRuns
rules-say-runs pipeline schedule boxes owners places asked kept =
    let at = address_at pipeline schedule boxes 0 (sources.Func owners.func) in
    let some : list_any (is_run at places) owners.runs ≡ true = sym (ap (λ b. if b then list_any (is_run at places) owners.runs else true) asked) ∙ kept in
    let f = found (is_run at places) owners.runs some in
    record { visits = f.one; there = f.there; all = run-all at f.one places f.passes; no_other = run-no-other at f.one places f.passes }

-- ---- turns that write a run

private-use : (hart owner : ℕ) → Private hart ≡ Owned owner → ⊥
private-use hart owner e = cc e

no-distance : (s r d hart : ℕ) → d ≡ 0 → s + d * hart + r ≡ s + d * 0 + r
no-distance s r d hart e = subst (λ n. s + n * hart + r ≡ s + n * 0 + r) (sym e) (omega arith)

module _ (pipeline : Pipeline) (schedule : Schedule) (boxes : List (Option SourceBox)) (number : ℕ) (owners : Owners) (text : List ℕ) (harts task hart : ℕ)
    (inputs : Planes) (points written : Points)
    (loaded : Point → Bool) (it : IsTask pipeline schedule boxes number owners task hart) (named : RunsAreNamed owners)
    (may : (func x y : ℕ) → written func x y ≡ true → IsWritten pipeline schedule boxes number owners task func x y) (n func : ℕ) (x y : ℕ → ℕ) (can : (k : ℕ)
    → k < n → written func (x k) (y k) ≡ true) where
  abbrev spot : ℕ → ℕ
  spot k = address_at pipeline schedule boxes hart (sources.Func func) (x k) (y k)

  abbrev all_places : List ℕ
  all_places = touched (accesses_to Word n spot)

  abbrev at : ℕ → ℕ → ℕ
  at a b = address_at pipeline schedule boxes 0 (sources.Func owners.func) a b

  -- the points of a Func at root lie where they lie for all harts
  same-for-all : (place : BufferLayout) → place.distance ≡ 0 → (a b : ℕ) → address place hart a b ≡ address place 0 a b
  same-for-all place none a b = no-distance place.start (pixel_bytes place.pixels * (b * place.width + a)) place.distance hart none

  module _ (k : ℕ) (below : k < n) (root : RootPoint pipeline schedule boxes func (x k) (y k)) (same : func ≡ owners.func) (run : owners.in_runs ≡ true)
      (are : AreRun (setting pipeline schedule boxes number owners text harts task hart inputs points written loaded) n func x y) where
    lies : (a b : ℕ) → address_at pipeline schedule boxes hart (sources.Func func) a b ≡ at a b
    lies a b =
        same-for-all (place_of (places pipeline schedule boxes) (sources.Func func)) (ap (λ (z : BufferLayout). z.distance) (root-place pipeline schedule boxes func
        (x k) (y k) root)) a b
        ∙ ap (λ f. address_at pipeline schedule boxes 0 (sources.Func f) a b) same

    one : IsNamed owners are.values
    one = named are.values (x k) (y k) (are.each k below)

    every-byte : (visit : Visit) → Contains one.visits visit → (byte : ℕ) → byte < 4 → is_in (at visit.x visit.y + byte) all_places ≡ true
    every-byte visit there byte small =
        let ran : owners.run visit.x visit.y are.values ≡ true = one.is visit.x visit.y ∙ any-given (is_slice visit.x visit.y) one.visits visit there
        (itself visit) in
        let w = are.all visit.x visit.y ran in
        let here : spot w.number ≡ at visit.x visit.y = lies (x w.number) (y w.number) ∙ ap (λ a. at a (y w.number)) w.x_is ∙ ap (at visit.x) w.y_is in
        let b = w.below in
        in-places 0 n spot w.number (at visit.x visit.y + byte) (omega arith) (omega (arith, b)) (omega (arith, here)) (omega (arith, here, small))

    none-else : (place : ℕ) → is_in place all_places ≡ true → IsByteOf at one.visits place
    none-else place i =
        let w = in-words spot 0 n place i in
        let b = w.below in
        let l : w.k < n = omega (arith, b) in
        let e : spot w.k ≡ at (x w.k) (y w.k) = lies (x w.k) (y w.k) in
        let is = w.is in
        record { x = x w.k; y = y w.k; byte = w.byte; visited = sym (one.is (x w.k) (y w.k)) ∙ are.each w.k l; small = w.small; is = omega (arith, is, e) }

    kept : rule_of pipeline schedule boxes owners all_places ≡ true
    kept =
        ap (λ b. if b then list_any (is_run at all_places) owners.runs else true) run
        ∙ any-given (is_run at all_places) owners.runs one.visits one.there (run-given at one.visits all_places every-byte none-else)

  keeps : (func == owners.func && owners.in_runs ≡ true → AreRun (setting pipeline schedule boxes number owners text harts task hart inputs points written
      loaded) n func x y)
      → Keeps (task_world pipeline schedule boxes number owners text task hart) all_places
  keeps are address owner i owned =
      let w = in-words spot 0 n address i in
      let b = w.below in
      let l : w.k < n = omega (arith, b) in
      elim (may func (x w.k) (y w.k) (can w.k l)) [
        | inl r ↦ by-runs w.k l r.0 r.1.0 owners.in_runs refl
        | inr p ↦
            let own = copy-byte pipeline schedule boxes number owners text task hart it.few_harts it.below it.one_owner it.fits func (x w.k) (y w.k) p w.byte
            w.small in
            absurd (private-use hart owner (sym own ∙ ap (uses pipeline schedule boxes number owners) (sym w.is) ∙ owned))
      ]
    where
      by-runs : (k : ℕ) → k < n → RootPoint pipeline schedule boxes func (x k) (y k) → func ≡ owners.func → (b : Bool) → owners.in_runs ≡ b
          → rule_of pipeline schedule boxes owners all_places ≡ true
      by-runs k below root same false e = ap (λ b. if b then list_any (is_run at all_places) owners.runs else true) e
      by-runs k below root same true e = kept k below root same e (are (and_from (func == owners.func) owners.in_runs (eq-eqb func owners.func same) e))

pub tasks-may-write-runs : (pipeline : Pipeline) (schedule : Schedule) (boxes : List (Option SourceBox)) (number : ℕ) (owners : Owners)
    → TasksMayWriteRuns pipeline schedule boxes number owners
tasks-may-write-runs pipeline schedule boxes number owners text harts task hart inputs points written loaded it named may n func x y can are =
    keeps pipeline schedule boxes number owners text harts task hart inputs points written loaded it named may n func x y can are
