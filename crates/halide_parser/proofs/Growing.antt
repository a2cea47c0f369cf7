-- What may be read stays so while inputs, Funcs and updates join.
use Rattle.std.proofs.Common.{◌≡◌, ℕ, zero, suc, ◌<◌, ◌⊎◌, inl, inr, true, List, [], ◌∷◌, ◌++◌, length, Option, Some, None, refl, ap, arith}
use Rattle.std.specs.Prelude.{Bool, ◌==◌, nat_lt, slice_get, is_some}
use Rattle.std.proofs.lemmas.Bool.{and_parts, and_from}
use Rattle.halide_pipeline.specs.declared.definitions.Func.{Func}
use Rattle.halide_pipeline.specs.declared.definitions.Input.{Input}
use Rattle.halide_pipeline.specs.declared.definitions.Update.{Update}
use Rattle.halide_pipeline.specs.declared.expressions.Expr.{Expr}
use Rattle.halide_pipeline.specs.declared.expressions.Source.{Source}
use Rattle.halide_pipeline.specs.declared.expressions.Source.TheVariants as sources
use Rattle.halide_pipeline.specs.declared.expressions.Variable.{Variable}
use Rattle.halide_pipeline.specs.WellFormed.{dimensions, is_read, is_source, is_input_of, is_func_of, keeps, keeps_index, is_update_variable, is_argument}
use Rattle.halide_pipeline.specs.WellFormed.{IsFunc, IsUpdate}
use Rattle.halide_pipeline.proofs.Keeping.{keeps-grows}
use Rattle.halide_parser.specs.Meaning.{with_update}

-- ---- lists

pub get-append : {A : Type 0} (xs ys : List A) (k : ℕ) (x : A) → slice_get xs k ≡ Some x → slice_get (xs ++ ys) k ≡ Some x
get-append [] ys k x e = cc
get-append (y ∷ xs) ys zero x e = e
get-append (y ∷ xs) ys (suc k) x e = get-append xs ys k x e

pub get-last : {A : Type 0} (xs : List A) (y : A) (k : ℕ) (x : A) → slice_get (xs ++ y ∷ []) k ≡ Some x
    → (slice_get xs k ≡ Some x) ⊎ ((k ≡ length xs) × (y ≡ x))
get-last [] y zero x e = inr (refl, cc)
get-last [] y (suc k) x e = cc
get-last (z ∷ xs) y zero x e = inl e
get-last (z ∷ xs) y (suc k) x e = elim (get-last xs y k x e) [
  | inl found ↦ inl found
  | inr last ↦ inr (ap suc last.0, last.1)
]

-- ---- more inputs and Funcs

-- What could be read still can.
abbrev pub Grows : List Input → List Func → List Input → List Func → Type 0
Grows inputs funcs inputs' funcs' = (below : ℕ) (s : Source) (n : ℕ) → is_read inputs funcs below s n ≡ true → is_read inputs' funcs' below s n ≡ true

module _ (inputs : List Input) (funcs : List Func) (inputs' : List Input) (funcs' : List Func) (grows : Grows inputs funcs inputs' funcs') where
  index_grows : (below count : ℕ) (has : Variable → Bool) (index : Option Expr) → keeps_index (is_read inputs funcs below) has count index ≡ true
      → keeps_index (is_read inputs' funcs' below) has count index ≡ true
  index_grows below count has None kept = kept
  index_grows below count has (Some index) kept =
      let parts = and_parts (count == 2) (keeps (is_read inputs funcs below) has index) kept in
      and_from (count == 2) (keeps (is_read inputs' funcs' below) has index) parts.0 (keeps-grows (is_read inputs funcs below) (is_read inputs' funcs' below)
      has (grows below) index parts.1)

  pub update_grows : (place count : ℕ) (update : Update) → IsUpdate inputs funcs place count update → IsUpdate inputs' funcs' place count update
  update_grows place count update is = record {
    left_x = keeps-grows (is_read inputs funcs place) (is_read inputs' funcs' place) (is_update_variable count update.second) (grows place) update.left_x
        is.left_x;
    left_y = index_grows place count (is_update_variable count update.second) update.left_y is.left_y;
    right = keeps-grows (is_read inputs funcs (suc place)) (is_read inputs' funcs' (suc place)) (is_update_variable count update.second) (grows (suc place))
        update.right is.right;
    first_argument = is.first_argument;
    second_argument = is.second_argument;
    own_calls = is.own_calls;
    left_x_sized = is.left_x_sized;
    left_y_sized = is.left_y_sized;
    right_sized = is.right_sized;
    minimum = is.minimum;
    second_minimum = is.second_minimum;
    box = is.box;
  }

  pub func_grows : (place : ℕ) (func : Func) → IsFunc inputs funcs place func → IsFunc inputs' funcs' place func
  func_grows place func is = record {
    pure = keeps-grows (is_read inputs funcs place) (is_read inputs' funcs' place) (is_argument (dimensions func)) (grows place) func.pure is.pure;
    pure_sized = is.pure_sized;
    arguments = is.arguments;
    few_updates = is.few_updates;
    updates = λ at update found. update_grows place (dimensions func) update (is.updates at update found);
    reductions = is.reductions;
  }

input_of-append : (inputs more : List Input) (place n : ℕ) (found : Option Input) → slice_get inputs place ≡ found → is_input_of found n ≡ true
    → is_input_of (slice_get (inputs ++ more) place) n ≡ true
input_of-append inputs more place n None is e = cc
input_of-append inputs more place n (Some input) is e = rw (get-append inputs more place input is) e

func_of-append : (funcs more : List Func) (place n : ℕ) (found : Option Func) → slice_get funcs place ≡ found → is_func_of found n ≡ true
    → is_func_of (slice_get (funcs ++ more) place) n ≡ true
func_of-append funcs more place n None is e = cc
func_of-append funcs more place n (Some func) is e = rw (get-append funcs more place func is) e

pub inputs_grow : (inputs more : List Input) (funcs : List Func) → Grows inputs funcs (inputs ++ more) funcs
inputs_grow inputs more funcs below (sources.Input place) n e = input_of-append inputs more place n (slice_get inputs place) refl e
inputs_grow inputs more funcs below (sources.Func place) n e = e

pub funcs_grow : (inputs : List Input) (funcs more : List Func) → Grows inputs funcs inputs (funcs ++ more)
funcs_grow inputs funcs more below (sources.Input place) n e = e
funcs_grow inputs funcs more below (sources.Func place) n e =
    let parts = and_parts (nat_lt place below) (is_func_of (slice_get funcs place) n) e in
    and_from (nat_lt place below) (is_func_of (slice_get (funcs ++ more) place) n) parts.0 (func_of-append funcs more place n (slice_get funcs place) refl
    parts.1)

-- ---- one more update of the last Func

-- a Func with one more update
abbrev pub updated : Func → Update → Func
updated f update = record { first_argument = f.first_argument; second_argument = f.second_argument; pure = f.pure; updates = f.updates ++ update ∷ [] }

pub length-update : (funcs : List Func) (update : Update) → length (with_update funcs update) ≡ length funcs
unfolding with_update
length-update [] update = refl
length-update (f ∷ []) update = refl
length-update (f ∷ g ∷ funcs) update = ap suc (length-update (g ∷ funcs) update)

-- a Func of the list, which is as it was or the last with its update
pub get-update : (funcs : List Func) (update : Update) (k : ℕ) (g : Func) → slice_get (with_update funcs update) k ≡ Some g
    → ((suc k < length funcs) × (slice_get funcs k ≡ Some g)) ⊎ ((f : Func) × (suc k ≡ length funcs) × (slice_get funcs k ≡ Some f) × (updated f update ≡ g))
unfolding with_update
get-update [] update k g e = cc
get-update (f ∷ []) update zero g e = inr (f, refl, refl, cc)
get-update (f ∷ []) update (suc k) g e = cc
get-update (f ∷ h ∷ funcs) update zero g e = inl (omega arith, e)
get-update (f ∷ h ∷ funcs) update (suc k) g e = elim (get-update (h ∷ funcs) update k g e) [
  | inl before ↦ inl (omega (arith, before.0), before.1)
  | inr last ↦ inr (last.0, ap suc last.1, last.2, last.3)
]

func_of-update : (funcs : List Func) (update : Update) (place n : ℕ) → is_func_of (slice_get funcs place) n ≡ true
    → is_func_of (slice_get (with_update funcs update) place) n ≡ true
unfolding with_update
func_of-update [] update place n e = e
func_of-update (f ∷ []) update zero n e = e
func_of-update (f ∷ []) update (suc place) n e = e
func_of-update (f ∷ g ∷ funcs) update zero n e = e
func_of-update (f ∷ g ∷ funcs) update (suc place) n e = func_of-update (g ∷ funcs) update place n e

pub updates_grow : (inputs : List Input) (funcs : List Func) (update : Update) → Grows inputs funcs inputs (with_update funcs update)
updates_grow inputs funcs update below (sources.Input place) n e = e
updates_grow inputs funcs update below (sources.Func place) n e =
    let parts = and_parts (nat_lt place below) (is_func_of (slice_get funcs place) n) e in
    and_from (nat_lt place below) (is_func_of (slice_get (with_update funcs update) place) n) parts.0 (func_of-update funcs update place n parts.1)

-- ---- sources that are there

some-append : {A : Type 0} (xs ys : List A) (k : ℕ) → is_some (slice_get xs k) ≡ true → is_some (slice_get (xs ++ ys) k) ≡ true
some-append [] ys k e = cc
some-append (x ∷ xs) ys zero e = e
some-append (x ∷ xs) ys (suc k) e = some-append xs ys k e

pub some-last : {A : Type 0} (xs : List A) (x : A) → is_some (slice_get (xs ++ x ∷ []) (length xs)) ≡ true
some-last [] x = refl
some-last (y ∷ xs) x = some-last xs x

some-update : (funcs : List Func) (update : Update) (k : ℕ) → is_some (slice_get funcs k) ≡ true → is_some (slice_get (with_update funcs update) k) ≡ true
unfolding with_update
some-update [] update k e = e
some-update (f ∷ []) update zero e = e
some-update (f ∷ []) update (suc k) e = e
some-update (f ∷ g ∷ funcs) update zero e = e
some-update (f ∷ g ∷ funcs) update (suc k) e = some-update (g ∷ funcs) update k e

pub source-input : (inputs more : List Input) (funcs : List Func) (s : Source) → is_source inputs funcs s ≡ true → is_source (inputs ++ more) funcs s ≡ true
source-input inputs more funcs (sources.Input place) e = some-append inputs more place e
source-input inputs more funcs (sources.Func place) e = e

pub source-func : (inputs : List Input) (funcs more : List Func) (s : Source) → is_source inputs funcs s ≡ true → is_source inputs (funcs ++ more) s ≡ true
source-func inputs funcs more (sources.Input place) e = e
source-func inputs funcs more (sources.Func place) e = some-append funcs more place e

pub source-update : (inputs : List Input) (funcs : List Func) (update : Update) (s : Source) → is_source inputs funcs s ≡ true
    → is_source inputs (with_update funcs update) s ≡ true
source-update inputs funcs update (sources.Input place) e = e
source-update inputs funcs update (sources.Func place) e = some-update funcs update place e
