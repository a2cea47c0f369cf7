-- What fits with its parts, and why a statement has no code.
use Rattle.std.proofs.Common.{◌≡◌, ℕ, zero, suc, ◌+◌, ◌*◌, ◌^◌, ◌≤◌, List, length, Bool, true, false, refl, ap, ◌∙◌, sym, subst, arith, inl, inr}
use Rattle.std.specs.Prelude.{◌&&◌, if◌then◌else◌, min, Option, Result, IfErr, IsErrAnd}
use Rattle.std.proofs.lemmas.Bool.{true≢false}
use Rattle.std.proofs.lemmas.Result.{err_from_is_err_and}
use Rattle.loop_ir.specs.declared.expressions.Counter.{Counter}
use Rattle.loop_ir.specs.declared.statements.LoopKind.{LoopKind}
use Rattle.loop_ir.specs.declared.statements.LoopKind.TheVariants as kinds
use Rattle.loop_ir.specs.declared.expressions.Expr.{Expr}
use Rattle.loop_ir.specs.declared.statements.Stmt.{Stmt}
use Rattle.loop_ir.specs.declared.statements.Stmt.TheVariants as s
use Rattle.loop_ir.specs.declared.statements.Store.{Store}
use Rattle.loop_ir.specs.declared.statements.Whole.{Whole}
use Rattle.loop_ir.specs.Depths.{depth}
use Rattle.loop_ir.specs.Needs.{Need, need, greatest_need}
use Rattle.loop_ir.specs.Sizes.{is_laid_out, whole_size}
use Rattle.loop_ir.proofs.Depths.{depth_sequence, depth_for, depth_bind}
use Rattle.loop_ir.proofs.Needs.{greatest_store, greatest_sequence, greatest_for, greatest_bind}
use Rattle.loop_ir.proofs.Sizes.{whole_sequence, whole_for, whole_bind}
use Rattle.task_code_scalar.specs.declared.CodeFault.{CodeFault}
use Rattle.task_code_scalar.specs.declared.CodeFault.TheVariants as faults
use Rattle.task_code_scalar.specs.declared.layouts.Places.{Places}
use Rattle.task_code_scalar.specs.Faults.{IsFault, HasRoom, LieLow, FitsFrame}
use Rattle.task_code_registers.specs.declared.scopes.AffineForm.{AffineForm}
use Rattle.task_code_registers.specs.declared.scopes.Held.{Held}
use Rattle.task_code_registers.specs.Scopes.{has_variable, have_registers, is_left, left_below, left_count}
use Rattle.task_code_loops.specs.Beginning.{HasNoRegister, variable}
use Rattle.task_code_loops.proofs.Knowledge.{variable-there}
use Rattle.task_code_values.specs.Storing.{FitsParked, FitsStore}
use Rattle.task_code_variables.specs.Renaming.{HoldsAround, IsRenamed, IsRenamedStore, numbered}
use Rattle.task_code_variables.specs.Splits.{EntersSplit}
use Rattle.task_code_variables.specs.Statements.{FitsStatement, IsLoopFault, IsStatementFault}
use Rattle.task_code_variables.proofs.Nesting.{room-for, room-vector}

-- ---- no more registers than there are

pub left-few : (scope : List Held) (n : ℕ) → left_below scope n ≤ n
unfolding left_below
left-few scope zero = omega arith
left-few scope (suc q) = by-test (is_left scope q) (left-few scope q)
  where
    by-test : (t : Bool) → left_below scope q ≤ q → (if t then suc (left_below scope q) else left_below scope q) ≤ suc q
    by-test true few = omega (arith, few)
    by-test false few = omega (arith, few)

-- ---- room

pub less-room : (frames : Option ℕ) (n k : ℕ) → n ≤ k → HasRoom frames k 0 → HasRoom frames n 0
less-room frames n k less (inl few) = inl (omega (arith, less, few))
less-room frames n k less (inr few) = inr (omega (arith, less, few))

module _ (places : Places) (scope : List Held) where
  first-fits : (first second : Stmt) → FitsStatement places scope (s.Sequence first second) → FitsStatement places scope first
  first-fits first second fits = record {
    low = fits.low;
    room = let g = greatest_sequence first second in less-room places.frames (greatest_need first) _ (omega (arith, g)) fits.room;
    few = let d = depth_sequence first second in let few = fits.few in omega (arith, d, few);
  }

  second-fits : (first second : Stmt) → FitsStatement places scope (s.Sequence first second) → FitsStatement places scope second
  second-fits first second fits = record {
    low = fits.low;
    room = let g = greatest_sequence first second in less-room places.frames (greatest_need second) _ (omega (arith, g)) fits.room;
    few = let d = depth_sequence first second in let few = fits.few in omega (arith, d, few);
  }

  loop-fits : (counter : Counter) (count : ℕ) (kind : LoopKind) (body : Stmt) (inner : List Held) (reserved : ℕ) → reserved ≡ min (depth body) 20
      → reserved ≤ left_count inner → FitsStatement places scope (s.For counter count kind body) → FitsStatement places inner body
  loop-fits counter count kind body inner reserved is left fits = record {
    low = fits.low;
    room = let g = greatest_for counter count kind body in less-room places.frames (greatest_need body) _ (omega (arith, g)) fits.room;
    few =
        let d = depth_for counter count kind body in
        let few = fits.few in
        let most = left-few scope 20 in
        omega (arith, d, few, most, is, left);
  }

  split-fits : (counter : Counter) (whole : Whole) (extent : ℕ) (body : Stmt) (inner : List Held) → left_count scope ≤ suc (left_count inner)
      → FitsStatement places scope (s.Bind counter whole extent body) → FitsStatement places inner body
  split-fits counter whole extent body inner fewer fits = record {
    low = fits.low;
    room = let g = greatest_bind counter whole extent body in less-room places.frames (greatest_need body) _ (omega (arith, g)) fits.room;
    few = let d = depth_bind counter whole extent body in let few = fits.few in omega (arith, d, few, fewer);
  }

-- ---- faults

-- a fault that is passed on
pub passed-on : {T Old : Type 0} → (new : CodeFault → Type 0) → (r : Result T CodeFault) (fault : CodeFault) → IsErrAnd r (λ error. error ≡ fault)
    → (Old → new fault) → Old → IfErr r new
passed-on {T} {Old} new r fault from f is =
    let p = err_from_is_err_and r from in
    subst (λ (x : Result T CodeFault). IfErr x new) (sym p.1) (subst new (sym p.2) (f is))

fault-is : (long deep longer deeper : Type 0) (fault : CodeFault) → (long → longer) → (deep → deeper) → IsFault long deep fault → IsFault longer deeper fault
fault-is long deep longer deeper (faults.OutOfMemory error) f g x = tt
fault-is long deep longer deeper faults.TooLong f g x = f x
fault-is long deep longer deeper faults.TooDeep f g x = g x

module _ (places : Places) (scope : List Held) where
  pub fault-as : (own x : Stmt) (fault : CodeFault) → own ≡ x → IsStatementFault places scope x fault → IsStatementFault places scope own fault
  fault-as own x fault is e = subst (λ y. IsStatementFault places scope y fault) (sym is) e

  pub first-faulty : (own first second x : Stmt) (fault : CodeFault) → own ≡ s.Sequence first second → x ≡ first
      → IsStatementFault places scope x fault → IsStatementFault places scope own fault
  first-faulty own first second x fault is ex e = fault-as own (s.Sequence first second) fault is
      (fault-is _ _ _ _ fault (λ l. let w = whole_sequence first second in omega (arith, l, w)) (λ no fits. no (first-fits places scope first second fits))
      (subst (λ y. IsStatementFault places scope y fault) ex e))

  pub second-faulty : (own first second x : Stmt) (fault : CodeFault) → own ≡ s.Sequence first second → x ≡ second
      → IsStatementFault places scope x fault → IsStatementFault places scope own fault
  second-faulty own first second x fault is ex e = fault-as own (s.Sequence first second) fault is
      (fault-is _ _ _ _ fault (λ l. let w = whole_sequence first second in omega (arith, l, w)) (λ no fits. no (second-fits places scope first second fits))
      (subst (λ y. IsStatementFault places scope y fault) ex e))

  -- no register is left for a loop
  pub loop-full : (counter : Counter) (count reserved : ℕ) (body : Stmt) (fault : CodeFault) → reserved ≡ min (depth body) 20
      → IsFault ⊥ (left_count scope ≤ reserved) fault → IsLoopFault places scope counter count body fault
  loop-full counter count reserved body fault is e kind plain =
      fault-is ⊥ _ _ _ fault (λ no. absurd no)
      (λ full fits. let d = depth_for counter count kind body in let few = fits.few in absurd (omega (arith, d, few, full, is))) e

  pub loop-faulty : (counter : Counter) (count reserved : ℕ) (body : Stmt) (inner view : List Held) (fault : CodeFault) → 1 ≤ count
      → reserved ≡ min (depth body) 20 → reserved ≤ left_count inner → view ≡ inner
      → IsStatementFault places view body fault → IsLoopFault places scope counter count body fault
  loop-faulty counter count reserved body inner view fault some is left ev e kind plain =
      fault-is _ _ _ _ fault
      (λ l.
      let w = whole_for counter count kind body in
      let r = room-for (is_laid_out kind) count (whole_size body) some in
      omega (arith, l, w, r))
      (λ no fits. no (loop-fits places scope counter count kind body inner reserved is left fits))
      (subst (λ i. IsStatementFault places i body fault) ev e)

  -- its end is too far from its beginning
  pub loop-long : (counter : Counter) (count words moves : ℕ) (body : Stmt) (fault : CodeFault) → 1 ≤ count → words ≤ whole_size body → moves ≤ 1
      → IsFault (2 ^ 18 ≤ words + (3 * moves + 4)) ⊥ fault → IsLoopFault places scope counter count body fault
  loop-long counter count words moves body fault some short few e kind plain =
      fault-is _ ⊥ _ _ fault
      (λ l.
      let w = whole_for counter count kind body in
      let r = room-for (is_laid_out kind) count (whole_size body) some in
      omega (arith, l, w, r, short, few)) (λ no. absurd no) e

  -- so it is of a vectorized loop too
  any-fits : (counter : Counter) (count : ℕ) (kind : LoopKind) (body : Stmt) → FitsStatement places scope (s.For counter count kind body)
      → FitsStatement places scope (s.For counter count kinds.Serial body)
  any-fits counter count kind body fits = record {
    low = fits.low;
    room =
        let one = greatest_for counter count kind body in
        let other = greatest_for counter count kinds.Serial body in
        less-room places.frames _ _ (omega (arith, one, other)) fits.room;
    few =
        let one = depth_for counter count kind body in
        let other = depth_for counter count kinds.Serial body in
        let few = fits.few in
        omega (arith, one, other, few);
  }

  pub any-faulty : (counter : Counter) (count : ℕ) (kind : LoopKind) (body : Stmt) (fault : CodeFault) → IsLoopFault places scope counter count body fault
      → IsStatementFault places scope (s.For counter count kind body) fault
  any-faulty counter count kinds.Serial body fault e = e kinds.Serial refl
  any-faulty counter count kinds.Unrolled body fault e = e kinds.Unrolled refl
  any-faulty counter count kinds.Vectorized body fault e =
      fault-is _ _ _ _ fault
      (λ l.
      let one = whole_for counter count kinds.Serial body in
      let other = whole_for counter count kinds.Vectorized body in
      omega (arith, l, one, other))
      (λ no fits. no (any-fits counter count kinds.Vectorized body fits)) (e kinds.Serial refl)

  pub collected-faulty : (counter : Counter) (count n : ℕ) (kind other : LoopKind) (body : Stmt) (fault : CodeFault) → count ≡ n → kind ≡ other
      → IsStatementFault places scope (s.For counter n other body) fault → IsStatementFault places scope (s.For counter count kind body) fault
  collected-faulty counter count n kind other body fault en ek e =
      subst (λ k. IsStatementFault places scope (s.For counter k kind body) fault) (sym en)
      (subst (λ k. IsStatementFault places scope (s.For counter n k body) fault) (sym ek) e)

  -- the end of a loop that collects its pixels is too far from its beginning
  pub collected-long : (counter : Counter) (count words moves : ℕ) (body : Stmt) (fault : CodeFault) → words ≤ whole_size body + 6 → moves ≤ 1
      → IsFault (2 ^ 18 ≤ words + (3 * moves + 4)) ⊥ fault → IsStatementFault places scope (s.For counter count kinds.Vectorized body) fault
  collected-long counter count words moves body fault short few e =
      fault-is _ ⊥ _ _ fault
      (λ l.
      let w = whole_for counter count kinds.Vectorized body in
      let r = room-vector count (whole_size body) in
      omega (arith, l, w, r, short, few)) (λ no. absurd no) e

  pub for-faulty : (own body x : Stmt) (counter : Counter) (count : ℕ) (kind : LoopKind) (fault : CodeFault) → own ≡ s.For counter count kind body → x ≡ body
      → IsStatementFault places scope (s.For counter count kind x) fault → IsStatementFault places scope own fault
  for-faulty own body x counter count kind fault is ex e =
      fault-as own (s.For counter count kind x) fault (is ∙ ap (s.For counter count kind) (sym ex)) e

  pub split-full : (counter : Counter) (whole : Whole) (extent : ℕ) (body : Stmt) (fault : CodeFault) → IsFault ⊥ (left_count scope ≡ 0) fault
      → IsStatementFault places scope (s.Bind counter whole extent body) fault
  split-full counter whole extent body fault e =
      fault-is ⊥ _ _ _ fault (λ no. absurd no)
      (λ full fits. let d = depth_bind counter whole extent body in let few = fits.few in absurd (omega (arith, d, few, full))) e

  pub split-faulty : (counter : Counter) (whole : Whole) (extent : ℕ) (body : Stmt) (around : List Counter) (inner view : List Held) (c0 c1 : List ℕ)
      (fault : CodeFault) → EntersSplit c0 c1 scope inner around whole → view ≡ inner → IsStatementFault places view body fault
      → IsStatementFault places scope (s.Bind counter whole extent body) fault
  split-faulty counter whole extent body around inner view c0 c1 fault enters ev e =
      fault-is _ _ _ _ fault (λ l. let w = whole_bind counter whole extent body in omega (arith, l, w))
      (λ no fits. no (split-fits places scope counter whole extent body inner enters.fewer fits))
      (subst (λ i. IsStatementFault places i body fault) ev e)

  pub split-long : (counter : Counter) (whole : Whole) (extent : ℕ) (body : Stmt) (around : List Counter) (inner view : List Held) (c0 c1 words : List ℕ)
      (fault : CodeFault) → EntersSplit c0 c1 scope inner around whole → view ≡ inner
      → length words ≤ whole_size body + 6
      → IsFault (2 ^ 18 ≤ length words + 1) (HasNoRegister view (variable (numbered (length around)))) fault
      → IsStatementFault places scope (s.Bind counter whole extent body) fault
  split-long counter whole extent body around inner view c0 c1 words fault enters ev few e =
      fault-is _ _ _ _ fault
      (λ l.
      let w = whole_bind counter whole extent body in
      omega (arith, l, w, few))
      (λ no fits. true≢false (sym there ∙ no)) e
    where
      own : Held
      own = record { register = enters.register; form = variable (numbered (length around)) }

      has : has_variable view (numbered (length around)) ≡ true
      has = ap (λ i. has_variable i (numbered (length around))) (ev ∙ enters.is)
          ∙ variable-there (numbered (length around)) own scope enters.left.0 refl

      there : have_registers view (variable (numbered (length around))).sum.terms ≡ true
      there = ap (λ t. t && true) has

  pub bind-faulty : (own body x : Stmt) (counter : Counter) (whole : Whole) (extent : ℕ) (fault : CodeFault) → own ≡ s.Bind counter whole extent body → x ≡ body
      → IsStatementFault places scope (s.Bind counter whole extent x) fault → IsStatementFault places scope own fault
  bind-faulty own body x counter whole extent fault is ex e =
      fault-as own (s.Bind counter whole extent x) fault (is ∙ ap (s.Bind counter whole extent) (sym ex)) e

  -- ---- stores

  room-of : (around : List Counter) (own made : Expr) (most : ℕ) → IsRenamed around own made → need own ≤ most → LieLow places.frames
      → HasRoom places.frames most 0 → FitsFrame places.frames made 0
  room-of around own made most is less low room =
      let e : need made ≡ need own = ap (λ (n : Need). n.count) is.need_is in
      (low, less-room places.frames (need made) most (omega (arith, e, less)) room)

  parked-fits : (around : List Counter) (store made : Store) → HoldsAround around scope → IsRenamedStore around store made
      → FitsStatement places scope (s.Store store) → FitsParked places scope made
  parked-fits around store made holds is fits =
      let g = greatest_store store in
      record {
        registers = holds.registers;
        column_held = is.column.held scope holds;
        row_held = is.row.held scope holds;
        value_held = is.pixel.held scope holds;
        column_room = room-of around store.x made.x (greatest_need (s.Store store)) is.column (omega (arith, g)) fits.low fits.room;
        row_room = room-of around store.y made.y (greatest_need (s.Store store)) is.row (omega (arith, g)) fits.low fits.room;
        room = room-of around store.value made.value (greatest_need (s.Store store)) is.pixel (omega (arith, g)) fits.low fits.room;
      }

  pub store-faulty : (around : List Counter) (store made : Store) (fault : CodeFault) → HoldsAround around scope → IsRenamedStore around store made
      → IsFault ⊥ (FitsStore places scope made → ⊥) fault → IsStatementFault places scope (s.Store store) fault
  store-faulty around store made fault holds is e =
      fault-is ⊥ _ _ _ fault (λ no. absurd no) (λ no fits. no (fitting (parked-fits around store made holds is fits))) e
    where
      fitting : FitsParked places scope made → FitsStore places scope made
      fitting fits = record {
        column_held = fits.column_held;
        row_held = fits.row_held;
        value_held = fits.value_held;
        room = fits.room;
        indexes = inr fits;
      }

  -- a store's pixel and address have no code
  pub parked-faulty : (around : List Counter) (store made : Store) (fault : CodeFault) → HoldsAround around scope → IsRenamedStore around store made
      → IsFault ⊥ (FitsParked places scope made → ⊥) fault → IsStatementFault places scope (s.Store store) fault
  parked-faulty around store made fault holds is e =
      fault-is ⊥ _ _ _ fault (λ no. absurd no) (λ no fits. no (parked-fits around store made holds is fits)) e

-- ---- tests

pub tested-faulty : (scope : List Held) (counter : Counter) (form : AffineForm) (words view : List ℕ) (fault : CodeFault) → view ≡ words → form ≡ variable counter
    → IsFault (2 ^ 18 ≤ length view + 1) (HasNoRegister scope form) fault
    → IsFault (2 ^ 18 ≤ length words + 1) (HasNoRegister scope (variable counter)) fault
tested-faulty scope counter form words view fault ev ef e =
    subst (λ w. IsFault (2 ^ 18 ≤ length w + 1) (HasNoRegister scope (variable counter)) fault) ev
    (subst (λ f. IsFault (2 ^ 18 ≤ length view + 1) (HasNoRegister scope f) fault) ef e)
