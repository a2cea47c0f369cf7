-- Parts of expressions, and what of them stays in groups.
use Rattle.std.proofs.Common.{◌≡◌, ℕ, ◌*◌, ◌^◌, ◌<◌, ◌≤◌, List, [], ◌∷◌, ◌++◌, refl, ap, ◌∙◌, sym, subst, arith, inl, inr}
use Rattle.std.specs.Prelude.{IfSome, Option, Some, None}
use Rattle.std.specs.List.{AllByRecursion}
use Rattle.halide_pipeline.specs.declared.expressions.Operation.{Operation}
use Rattle.halide_pipeline.specs.Pixel.{Reads}
use Rattle.halide_pipeline.specs.Points.{Point}
use Rattle.halide_pipeline.proofs.Seeing.{all_parts}
use Rattle.loop_ir.specs.declared.expressions.Expr.{Expr, size-Expr}
use Rattle.loop_ir.specs.declared.expressions.Expr.TheVariants as e
use Rattle.loop_ir.specs.Counters.{Values, with}
use Rattle.loop_ir.specs.Expressions.{loads}
use Rattle.multi_hart_laws.specs.Alone.{World}
use Rattle.multi_hart_laws.specs.Paths.{lane}
use Rattle.task_code_scalar.specs.Evaluation.{Loads}
use Rattle.task_code_registers.proofs.Knowing.{knows-still}
use Rattle.task_code_values.proofs.Evaluating.{loads_binary, loads_divide, loads_remainder, loads_select}
use Rattle.task_code_values.proofs.Parts.{binary-first, binary-second, divide-first, remainder-first, select-first, select-second, select-third}
use Rattle.task_code_lanes.specs.declared.groups.LaneGroup.{LaneGroup}
use Rattle.task_code_lanes.specs.declared.groups.LaneGroup.TheVariants as groups
use Rattle.task_code_lanes.specs.Groups.{registers, slots, slot}
use Rattle.task_code_lane_values.specs.declared.kept.Kept.{Kept}
use Rattle.task_code_lane_values.specs.declared.vectorized.LaneSite.{LaneSite}
use Rattle.task_code_lane_values.specs.declared.vectorized.VectorLanes.{VectorLanes}
use Rattle.task_code_lane_values.specs.Leaving.{IsUnder}
use Rattle.task_code_lane_values.specs.inner.Sharing.{AreBelow, Begins, HoldsKept, HoldsValue, IsAnyPart, IsKeptAt, IsPart, IsSmallerPart, MayLoad, StandAmong}
use Rattle.task_code_lane_values.proofs.Composing.{kept-under, lanes-under}

-- ---- parts

append-one : {A : Type 0} (a b c : List A) → a ++ (b ++ c) ≡ (a ++ b) ++ c
append-one [] b c = refl
append-one (x ∷ a) b c = ap (λ l. x ∷ l) (append-one a b c)

none-behind : {A : Type 0} (l : List A) → l ++ [] ≡ l
none-behind [] = refl
none-behind (x ∷ l) = ap (λ k. x ∷ k) (none-behind l)

-- a list is among others, before and after which more stand
among : (all points more front back : List Point) → all ≡ front ++ (more ++ back) → StandAmong more points → StandAmong all points
among all points more front back is inner = record {
  before = front ++ inner.before;
  behind = inner.behind ++ back;
  is = is ∙ ap (λ l. front ++ (l ++ back)) inner.is
      ∙ ap (λ l. front ++ l) (sym (append-one inner.before (points ++ inner.behind) back)
      ∙ ap (λ l. inner.before ++ l) (sym (append-one points inner.behind back)))
      ∙ append-one front inner.before (points ++ (inner.behind ++ back));
}

pub part-itself : (whole part : Expr) → part ≡ whole → IsAnyPart whole part
part-itself whole part is = (
  λ reads values. record {
    before = [];
    behind = [];
    is = ap (loads reads values) (sym is) ∙ sym (none-behind (loads reads values part));
  },
  let h : size-Expr part ≡ size-Expr whole = ap size-Expr is in omega (arith, h),
)

-- of an operand, whose loads stand among those of the whole
smaller : (whole x part : Expr) → ((reads : Reads) (values : Values) → StandAmong (loads reads values whole) (loads reads values x)) → size-Expr x < size-Expr whole
    → IsAnyPart x part → IsSmallerPart whole part
smaller whole x part are less inner = (
  λ reads values.
      let a = are reads values in
      among (loads reads values whole) (loads reads values part) (loads reads values x) a.before a.behind a.is (inner.0 reads values),
  let h = inner.1 in omega (arith, h, less),
)

stands : (all points front back : List Point) → all ≡ front ++ (points ++ back) → StandAmong all points
stands all points front back is = record { before = front; behind = back; is = is }

pub first-part : (whole a b x part : Expr) (o : Operation) → whole ≡ e.Binary o a b → x ≡ a → IsAnyPart x part → IsSmallerPart whole part
first-part whole a b x part o is ex =
    smaller whole x part (λ reads values. stands (loads reads values whole) (loads reads values x) [] (loads reads values b)
    (ap (loads reads values) is ∙ loads_binary reads values o a b ∙ ap (λ l. l ++ loads reads values b) (ap (loads reads values) (sym ex))))
    (binary-first whole o a b x is ex)

pub second-part : (whole a b x part : Expr) (o : Operation) → whole ≡ e.Binary o a b → x ≡ b → IsAnyPart x part → IsSmallerPart whole part
second-part whole a b x part o is ex =
    smaller whole x part (λ reads values. stands (loads reads values whole) (loads reads values x) (loads reads values a) []
    (ap (loads reads values) is ∙ loads_binary reads values o a b
    ∙ ap (λ l. loads reads values a ++ l) (ap (loads reads values) (sym ex) ∙ sym (none-behind (loads reads values x)))))
    (binary-second whole o a b x is ex)

pub divide-part : (whole a x part : Expr) (c : ℕ) → whole ≡ e.Divide a c → x ≡ a → IsAnyPart x part → IsSmallerPart whole part
divide-part whole a x part c is ex =
    smaller whole x part (λ reads values. stands (loads reads values whole) (loads reads values x) [] []
    (ap (loads reads values) is ∙ loads_divide reads values a c ∙ ap (loads reads values) (sym ex) ∙ sym (none-behind (loads reads values x))))
    (divide-first whole a x c is ex)

pub remainder-part : (whole a x part : Expr) (c : ℕ) → whole ≡ e.Remainder a c → x ≡ a → IsAnyPart x part → IsSmallerPart whole part
remainder-part whole a x part c is ex =
    smaller whole x part (λ reads values. stands (loads reads values whole) (loads reads values x) [] []
    (ap (loads reads values) is ∙ loads_remainder reads values a c ∙ ap (loads reads values) (sym ex) ∙ sym (none-behind (loads reads values x))))
    (remainder-first whole a x c is ex)

pub condition-part : (whole c a b x part : Expr) → whole ≡ e.Select c a b → x ≡ c → IsAnyPart x part → IsSmallerPart whole part
condition-part whole c a b x part is ex =
    smaller whole x part (λ reads values. stands (loads reads values whole) (loads reads values x) [] (loads reads values a ++ loads reads values b)
    (ap (loads reads values) is ∙ loads_select reads values c a b
    ∙ ap (λ l. l ++ (loads reads values a ++ loads reads values b)) (ap (loads reads values) (sym ex))))
    (select-first whole c a b x is ex)

pub one-part : (whole c a b x part : Expr) → whole ≡ e.Select c a b → x ≡ a → IsAnyPart x part → IsSmallerPart whole part
one-part whole c a b x part is ex =
    smaller whole x part (λ reads values. stands (loads reads values whole) (loads reads values x) (loads reads values c) (loads reads values b)
    (ap (loads reads values) is ∙ loads_select reads values c a b
    ∙ ap (λ l. loads reads values c ++ (l ++ loads reads values b)) (ap (loads reads values) (sym ex))))
    (select-second whole c a b x is ex)

pub other-part : (whole c a b x part : Expr) → whole ≡ e.Select c a b → x ≡ b → IsAnyPart x part → IsSmallerPart whole part
other-part whole c a b x part is ex =
    smaller whole x part (λ reads values. stands (loads reads values whole) (loads reads values x) (loads reads values c ++ loads reads values a) []
    (ap (loads reads values) is ∙ loads_select reads values c a b
    ∙ ap (λ l. loads reads values c ++ (loads reads values a ++ l)) (ap (loads reads values) (sym ex) ∙ sym (none-behind (loads reads values x)))
    ∙ append-one (loads reads values c) (loads reads values a) (loads reads values x ++ [])))
    (select-third whole c a b x is ex)

pub any-part : (whole part : Expr) → IsSmallerPart whole part → IsAnyPart whole part
any-part whole part is = (is.0, let h = is.1 in omega (arith, h))

pub some-part : {T : Type 0} (o : Option T) (P Q : T → Type 0) → ((x : T) → P x → Q x) → IfSome o P → IfSome o Q
some-part None P Q each h = h
some-part (Some x) P Q each h = each x h

-- what may be loaded for the whole may be for a part
part-all : (P : Point → Type 0) (all points : List Point) → StandAmong all points → AllByRecursion P all → AllByRecursion P points
part-all P all points is each =
    let a = all_parts P is.before (points ++ is.behind) (subst (AllByRecursion P) is.is each) in
    (all_parts P points is.behind a.1).0

pub part-may : (site : LaneSite) (w : World) (m : List ℕ) (reads : Reads) (values : Values) (n : ℕ) (whole part : Expr) → IsPart whole part
    → MayLoad site w m reads values n whole → MayLoad site w m reads values n part
part-may site w m reads values n whole part is may i less =
    part-all (Loads w site.places.now m reads) (loads reads (with site.lanes.counter i values) whole) (loads reads (with site.lanes.counter i values) part)
    (is reads (with site.lanes.counter i values)) (may i less)

-- ---- what stays

slot-up : (group : LaneGroup) (a b : ℕ) → a ≤ b → lane (slot group a) 0 ≤ lane (slot group b) 0
slot-up groups.One a b l = omega (arith, l)
slot-up groups.Two a b l = omega (arith, l)
slot-up groups.Four a b l = omega (arith, l)

pub under-up : (group : LaneGroup) (a b q : ℕ) → a ≤ b → IsUnder group a q → IsUnder group b q
under-up group a b q l (inl h) = inl h
under-up group a b q l (inr (inl h)) = inr (inl h)
under-up group a b q l (inr (inr h)) = let s = slot-up group a b l in let high = h.1 in inr (inr (h.0, omega (arith, s, high)))

slot-under : (group : LaneGroup) (s k i n : ℕ) → s < k → n ≤ 4 * registers group → i < n → IsUnder group k (lane (slot group s) i)
slot-under groups.One s k i n l few b = inr (inr (omega arith, omega (arith, l, few, b)))
slot-under groups.Two s k i n l few b = inr (inr (omega arith, omega (arith, l, few, b)))
slot-under groups.Four s k i n l few b = inr (inr (omega arith, omega (arith, l, few, b)))

pub value-still : (vector_lanes : VectorLanes) (reads : Reads) (values : Values) (n : ℕ) (f g : ℕ → ℕ) (s k : ℕ) (x : Expr) → s < k → n ≤ 4 * registers vector_lanes.group
    → ((q : ℕ) → IsUnder vector_lanes.group k q → g q ≡ f q) → HoldsValue vector_lanes reads values n f s x → HoldsValue vector_lanes reads values n g s x
value-still vector_lanes reads values n f g s k x l few same h = record {
  value_is = λ i b. same (lane (slot vector_lanes.group s) i) (slot-under vector_lanes.group s k i n l few b) ∙
      h.value_is i b;
  small = h.small;
}

pub kept-still : (vector_lanes : VectorLanes) (kept : List Kept) (reads : Reads) (values : Values) (n : ℕ) (f g : ℕ → ℕ) (k : ℕ) → AreBelow kept k
    → n ≤ 4 * registers vector_lanes.group → ((q : ℕ) → IsUnder vector_lanes.group k q → g q ≡ f q) → HoldsKept vector_lanes kept reads values n f → HoldsKept vector_lanes kept reads values n g
kept-still vector_lanes [] reads values n f g k below few same h = tt
kept-still vector_lanes (t ∷ kept) reads values n f g k below few same h = (
  value-still vector_lanes reads values n f g t.slot k t.e.now below.0 few same h.0,
  kept-still vector_lanes kept reads values n f g k below.1 few same h.1,
)

pub below-up : (kept : List Kept) (k next : ℕ) → k ≤ next → AreBelow kept k → AreBelow kept next
below-up [] k next l below = tt
below-up (t ∷ kept) k next l below = let h = below.0 in (omega (arith, h, l), below-up kept k next l below.1)

pub kept-low : (kept : List Kept) (x : Expr) (s k : ℕ) → AreBelow kept k → IsKeptAt kept x s → s < k
kept-low [] x s k below is = absurd is
kept-low (t ∷ kept) x s k below (inl is) = subst (λ z. z < k) (sym is.0) below.0
kept-low (t ∷ kept) x s k below (inr is) = kept-low kept x s k below.1 is

pub kept-holds : (vector_lanes : VectorLanes) (kept : List Kept) (x : Expr) (s : ℕ) (reads : Reads) (values : Values) (n : ℕ) (f : ℕ → ℕ) → IsKeptAt kept x s
    → HoldsKept vector_lanes kept reads values n f → HoldsValue vector_lanes reads values n f s x
kept-holds vector_lanes [] x s reads values n f is h = absurd is
kept-holds vector_lanes (t ∷ kept) x s reads values n f (inl is) h =
    subst (λ z. HoldsValue vector_lanes reads values n f z x) (sym is.0) (subst (HoldsValue vector_lanes reads values n f t.slot) is.1 h.0)
kept-holds vector_lanes (t ∷ kept) x s reads values n f (inr is) h = kept-holds vector_lanes kept x s reads values n f
    is h.1

pub begins-still : (site : LaneSite) (w : World) (m : List ℕ) (values : Values) (n : ℕ) (f g : ℕ → ℕ) (k : ℕ)
    → ((q : ℕ) → IsUnder site.lanes.group k q → g q ≡ f q) → Begins site w m values n f → Begins site w m values n g
begins-still site w m values n f g k same b = record {
  size = b.size;
  are_places = b.are_places;
  holders = b.holders;
  knows = knows-still w.hart site.scope.now (with site.lanes.counter 0 values) f g
      (λ q h. same q (kept-under site.lanes.group k site.scope.now q b.holders h)) b.knows;
  has = lanes-under w m b.size site.lanes.group n k f g same b.has;
  some = b.some;
  few = b.few;
}
