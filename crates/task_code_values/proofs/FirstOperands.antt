-- How many first operands are over the stack, and how high it grows.
use Rattle.std.proofs.Common.{◌≡◌, ℕ, suc, ◌+◌, ◌<◌, ◌≤◌, Bool, true, false, refl, ap, ◌∙◌, sym, subst, arith, inl, inr}
use Rattle.std.specs.Prelude.{◌⊎◌, max, min, nat_le, if◌then◌else◌}
use Rattle.std.proofs.lemmas.Bool.Decides.{nat_tests}
use Rattle.halide_pipeline.specs.declared.expressions.Operation.{Operation}
use Rattle.halide_pipeline.specs.declared.expressions.Source.{Source}
use Rattle.loop_ir.specs.declared.expressions.Expr.{Expr}
use Rattle.loop_ir.specs.declared.expressions.Expr.TheOpen.{Expr-F}
use Rattle.loop_ir.specs.declared.expressions.Expr.TheOpen as layer
use Rattle.loop_ir.specs.declared.expressions.Expr.TheVariants as e
use Rattle.loop_ir.specs.declared.expressions.Linear.{Linear}
use Rattle.loop_ir.specs.Needs.{Need, beside_first, divisor_need, need_at, need_of, need}
use Rattle.loop_ir.proofs.Folds.{Both, left_of, right_of, folds_related, at_binary, at_divide, at_remainder, at_select, at_load}
use Rattle.loop_ir.proofs.Needs.{need_number, need_linear, need_binary, need_divide, need_remainder, need_select, need_load}
use Rattle.task_code_values.proofs.Parts.{need-some}
use Rattle.task_code_values.specs.Depths.{Depth, over, depth_at, depth_of, depth}

-- ---- the need beside it is the expression's, and what is counted is over the stack

record Agrees (d : Depth) (n : Need) : Type 0 where
  same : d.needs ≡ n
  many : 0 < d.firsts → 12 < d.needs.count

agrees : (m n : Need) (first : ℕ) → m ≡ n → Agrees (over m first) n
agrees m n first is = record { same = is; many = by-test (nat_le m.count 12) refl }
  where
    by-test : (t : Bool) → nat_le m.count 12 ≡ t → 0 < (if t then 0 else suc first) → 12 < m.count
    by-test true e some = absurd (omega (arith, some))
    by-test false e some = grind (arith, nat_tests, e)

agree-level : (y : Expr-F (Both Agrees)) → Agrees (depth_at (left_of Agrees y)) (need_at (right_of Agrees y))
agree-level (layer.Number n) = agrees _ _ 0 refl
agree-level (layer.Linear own) = agrees _ _ 0 refl
agree-level (layer.Binary o a b) =
    agrees _ _ a.left.firsts (ap (λ (n : Need). need_at (layer.Binary o n b.left.needs)) a.is.same
    ∙ ap (λ (n : Need). need_at (layer.Binary o a.right n)) b.is.same)
agree-level (layer.Divide a c) = agrees _ _ a.left.firsts (ap (λ (n : Need). need_at (layer.Divide n c)) a.is.same)
agree-level (layer.Remainder a c) = agrees _ _ a.left.firsts (ap (λ (n : Need). need_at (layer.Remainder n c)) a.is.same)
agree-level (layer.Select c a b) =
    agrees _ _ c.left.firsts (ap (λ (n : Need). need_at (layer.Select n a.left.needs b.left.needs)) c.is.same
    ∙ ap (λ (n : Need). need_at (layer.Select c.right n b.left.needs)) a.is.same
    ∙ ap (λ (n : Need). need_at (layer.Select c.right a.right n)) b.is.same)
agree-level (layer.Load source x y) =
    agrees _ _ x.left.firsts (ap (λ (n : Need). need_at (layer.Load source n y.left.needs)) x.is.same
    ∙ ap (λ (n : Need). need_at (layer.Load source x.right n)) y.is.same)

all-agree : (expression : Expr) → Agrees (depth_of expression) (need_of expression)
unfolding depth_of need_of
all-agree expression = folds_related Agrees depth_at need_at agree-level expression

pub depth-over : (new_expression : Expr) → 0 < depth new_expression → 12 < need new_expression
depth-over new_expression some = let a = all-agree new_expression in subst (λ (n : Need). 12 < n.count) a.same
    (a.many some)

-- ---- first operands

-- an expression over the stack counts one more than its first operand does
abbrev pub HasFirst : Expr → Expr → Type 0
HasFirst expression first = depth expression ≡ (if nat_le (need expression) 12 then 0 else suc (depth first))

has-first : (expression first : Expr) (n : Need) → depth_of expression ≡ over n (depth first)
    → HasFirst expression first
has-first expression first n is =
    ap (λ (d : Depth). d.firsts) is
    ∙ ap (λ (m : Need). if nat_le m.count 12 then 0 else suc (depth first)) (sym (ap (λ (d : Depth). d.needs) is) ∙ (all-agree expression).same)

has-first-as : (expression whole a x : Expr) → expression ≡ whole → x ≡ a → HasFirst whole a → HasFirst expression x
has-first-as expression whole a x eo ex is = subst (λ (y : Expr). HasFirst y x) (sym eo) (subst (λ (y : Expr). HasFirst whole y) (sym ex) is)

pub first-binary : (expression : Expr) (o : Operation) (a b x : Expr) → expression ≡ e.Binary o a b → x ≡ a
    → HasFirst expression x
unfolding depth_of
first-binary expression o a b x eo ex =
    has-first-as expression (e.Binary o a b) a x eo ex (has-first (e.Binary o a b) a _ (at_binary Depth depth_at o a b))

pub first-divide : (expression a : Expr) (c : ℕ) (x : Expr) → expression ≡ e.Divide a c → x ≡ a → HasFirst expression x
unfolding depth_of
first-divide expression a c x eo ex = has-first-as expression (e.Divide a c) a x eo ex (has-first (e.Divide a c) a _ (at_divide Depth depth_at a c))

pub first-remainder : (expression a : Expr) (c : ℕ) (x : Expr) → expression ≡ e.Remainder a c → x ≡ a
    → HasFirst expression x
unfolding depth_of
first-remainder expression a c x eo ex =
    has-first-as expression (e.Remainder a c) a x eo ex (has-first (e.Remainder a c) a _
    (at_remainder Depth depth_at a c))

pub first-select : (expression c a b x : Expr) → expression ≡ e.Select c a b → x ≡ c → HasFirst expression x
unfolding depth_of
first-select expression c a b x eo ex = has-first-as expression (e.Select c a b) c x eo ex (has-first (e.Select c a b) c _ (at_select Depth depth_at c a b))

pub first-load : (expression : Expr) (source : Source) (a b x : Expr) → expression ≡ e.Load source a b → x ≡ a
    → HasFirst expression x
unfolding depth_of
first-load expression source a b x eo ex =
    has-first-as expression (e.Load source a b) a x eo ex (has-first (e.Load source a b) a _ (at_load Depth depth_at source a b))

-- what is known of it, its first operand has one less of
pub known-first : (expression first : Expr) (k : ℕ) → HasFirst expression first → 1 + k ≤ depth expression
    → k ≤ depth first
known-first expression first k is some = by-test (nat_le (need expression) 12) is
  where
    by-test : (t : Bool) → depth expression ≡ (if t then 0 else suc (depth first)) → k ≤ depth first
    by-test true e = absurd (omega (arith, e, some))
    by-test false e = omega (arith, e, some)

-- ---- counting them

counted : (expression x : Expr) (m first others k : ℕ) → HasFirst expression x → need expression ≡ max (need x) m
    → (first ≤ depth x) × (first ≡ 0 → need x ≤ 12) → others ≡ min m 13 → k ≤ 1 + first → (k ≡ 0 → (first ≡ 0) × (others ≤ 12))
    → (0 < k → (0 < first) ⊎ (12 < others)) → (k ≤ depth expression) × (k ≡ 0 → need expression ≤ 12)
counted expression x m first others k is en knows eo most none some =
    (by-test (nat_le (need expression) 12) refl is, few)
  where
    few : k ≡ 0 → need expression ≤ 12
    few zero = let n = none zero in let l = knows.1 n.0 in let r = n.1 in omega (arith, en, l, r, eo)

    many : (0 < first) ⊎ (12 < others) → 12 < need expression
    many (inl g) = let d = depth-over x (let l = knows.0 in omega (arith, g, l)) in omega (arith, en, d)
    many (inr g) = omega (arith, en, g, eo)

    by-test : (t : Bool) → nat_le (need expression) 12 ≡ t → depth expression ≡ (if t then 0 else suc (depth x))
        → k ≤ depth expression
    by-test false e d = let l = knows.0 in omega (arith, d, l, most)
    by-test true e d =
        let low : need expression ≤ 12 = grind (arith, nat_tests, e) in
        let none-left : 0 < k → ⊥ = λ g. let n = many (some g) in omega (arith, n, low) in
        let zero : k ≤ 0 = omega (arith, none-left) in
        omega (arith, zero)

need-as : (expression whole : Expr) (n : Need) → expression ≡ whole → need_of whole ≡ n → need expression ≡ n.count
need-as expression whole n eo en = ap (λ (m : Need). m.count) (ap need_of eo ∙ en)

-- a first operand and what is beside it
first-as : (expression x a : Expr) (m : ℕ) → x ≡ a → need expression ≡ max (need a) m → need expression ≡ max (need x) m
first-as expression x a m ex is = is ∙ ap (λ (y : Expr). max (need y) m) (sym ex)

beside-as : (y b : Expr) (k : ℕ) → y ≡ b → k ≡ min (beside_first (need_of y)) 13 → k ≡ min (beside_first (need_of b)) 13
beside-as y b k ey is = is ∙ ap (λ (z : Expr). min (beside_first (need_of z)) 13) ey

-- what is answered of one more than there are of the first operand
abbrev pub IsMore : ℕ → ℕ → ℕ → Type 0
IsMore first others k = (k ≤ 1 + first) × ((k ≡ 0 → (first ≡ 0) × (others ≤ 12)) × (0 < k → (0 < first) ⊎ (12 < others)))

abbrev pub Counts : Expr → ℕ → Type 0
Counts expression k = (k ≤ depth expression) × (k ≡ 0 → need expression ≤ 12)

more : (expression x : Expr) (m first others k : ℕ) → HasFirst expression x → need expression ≡ max (need x) m → Counts x first → others ≡ min m 13 → IsMore first others k
    → Counts expression k
more expression x m first others k is en knows eo says = counted expression x m first others k is en knows eo says.0
    says.1.0 says.1.1

pub number-depth : (expression : Expr) (n : ℕ) → expression ≡ e.Number n → Counts expression 0
number-depth expression n eo = let l = need-as expression (e.Number n) _ eo (need_number n) in
    (omega arith, λ zero. omega (arith, l))

pub linear-depth : (expression : Expr) (sum : Linear) → expression ≡ e.Linear sum → Counts expression 0
linear-depth expression sum eo = let l = need-as expression (e.Linear sum) _ eo (need_linear sum) in (omega arith, λ zero. omega (arith, l))

pub binary-depth : (expression : Expr) (o : Operation) (a b x y : Expr) (first others k : ℕ) → expression ≡ e.Binary o a b → x ≡ a → y ≡ b → Counts x first
    → others ≡ min (beside_first (need_of y)) 13 → IsMore first others k → Counts expression k
binary-depth expression o a b x y first others k eo ex ey knows is says =
    more expression x _ first others k (first-binary expression o a b x eo ex) (first-as expression x a _ ex (need-as expression (e.Binary o a b) _ eo (need_binary o a b))) knows
    (beside-as y b others ey is) says

pub load-depth : (expression : Expr) (source : Source) (a b x y : Expr) (first others k : ℕ) → expression ≡ e.Load source a b → x ≡ a → y ≡ b → Counts x first
    → others ≡ min (beside_first (need_of y)) 13 → IsMore first others k → Counts expression k
load-depth expression source a b x y first others k eo ex ey knows is says =
    more expression x _ first others k (first-load expression source a b x eo ex) (first-as expression x a _ ex (need-as expression (e.Load source a b) _ eo (need_load source a b)))
    knows (beside-as y b others ey is) says

pub divide-depth : (expression a : Expr) (c : ℕ) (x : Expr) (first others k : ℕ) → expression ≡ e.Divide a c → x ≡ a
    → Counts x first
    → others ≡ min (divisor_need c) 13 → IsMore first others k → Counts expression k
divide-depth expression a c x first others k eo ex knows is says =
    more expression x _ first others k (first-divide expression a c x eo ex) (first-as expression x a _ ex (need-as expression (e.Divide a c) _ eo (need_divide a c))) knows is says

pub remainder-depth : (expression a : Expr) (c : ℕ) (x : Expr) (first others k : ℕ) → expression ≡ e.Remainder a c → x ≡ a → Counts x first
    → others ≡ min (divisor_need c) 13 → IsMore first others k → Counts expression k
remainder-depth expression a c x first others k eo ex knows is says =
    more expression x _ first others k (first-remainder expression a c x eo ex) (first-as expression x a _ ex (need-as expression (e.Remainder a c) _ eo (need_remainder a c))) knows
    is says

pub select-depth : (expression c a b x y z : Expr) (first second third others k : ℕ) → expression ≡ e.Select c a b → x ≡ c → y ≡ a → z ≡ b → Counts x first
    → second ≡ min (1 + need y) 13 → third ≡ min (2 + need z) 13 → others ≡ max second third → IsMore first others k → Counts expression k
select-depth expression c a b x y z first second third others k eo ex ey ez knows es et is says =
    let m = ap need ey in
    let n = ap need ez in
    more expression x _ first others k (first-select expression c a b x eo ex) (first-as expression x c _ ex (need-as expression (e.Select c a b) _ eo (need_select c a b))) knows
    (omega (arith, es, et, is, m, n)) says

-- ---- how high the stack grows

abbrev pub IsHeight : ℕ → Expr → ℕ → Type 0
IsHeight taken expression k = k ≡ min (taken + need expression) 13

height-as : (taken : ℕ) (x a : Expr) (k : ℕ) → x ≡ a → IsHeight taken x k → IsHeight taken a k
height-as taken x a k ex is = subst (λ (y : Expr). IsHeight taken y k) ex is

whole-height : (expression : Expr) (taken n k : ℕ) → need expression ≡ n → k ≡ min (taken + n) 13
    → IsHeight taken expression k
whole-height expression taken n k en is = omega (arith, en, is)

pair-height : (a b x y z : Expr) (taken first second k : ℕ) (t : Bool) → x ≡ a → y ≡ b → z ≡ b → IsHeight taken x first → IsHeight (taken + 1) y second
    → t ≡ (need_of z).is_leaf
    → ((m n : ℕ) → first ≡ min (taken + m) 13 → second ≡ min (taken + 1 + n) 13 → k ≡ min (taken + max m (if t then 0 else 1 + n)) 13)
    → k ≡ min (taken + max (need a) (beside_first (need_of b))) 13
pair-height a b x y z taken first second k t ex ey ez hx hy ht is =
    is (need a) (need b) (height-as taken x a first ex hx) (height-as (taken + 1) y b second ey hy)
    ∙ ap (λ (u : Bool). min (taken + max (need a) (if u then 0 else 1 + need b)) 13) (ht ∙ ap (λ (q : Expr). (need_of q).is_leaf) ez)

pub binary-height : (expression : Expr) (o : Operation) (a b x y z : Expr) (taken first second k : ℕ) (t : Bool) → expression ≡ e.Binary o a b → x ≡ a → y ≡ b → z ≡ b
    → IsHeight taken x first → IsHeight (taken + 1) y second → t ≡ (need_of z).is_leaf
    → ((m n : ℕ) → first ≡ min (taken + m) 13 → second ≡ min (taken + 1 + n) 13 → k ≡ min (taken + max m (if t then 0 else 1 + n)) 13)
    → IsHeight taken expression k
binary-height expression o a b x y z taken first second k t eo ex ey ez hx hy ht is =
    whole-height expression taken _ k (need-as expression (e.Binary o a b) _ eo (need_binary o a b)) (pair-height a b x y z taken first second k t ex ey ez hx hy ht is)

pub load-height : (expression : Expr) (source : Source) (a b x y z : Expr) (taken first second k : ℕ) (t : Bool) → expression ≡ e.Load source a b → x ≡ a → y ≡ b
    → z ≡ b → IsHeight taken x first → IsHeight (taken + 1) y second → t ≡ (need_of z).is_leaf
    → ((m n : ℕ) → first ≡ min (taken + m) 13 → second ≡ min (taken + 1 + n) 13 → k ≡ min (taken + max m (if t then 0 else 1 + n)) 13)
    → IsHeight taken expression k
load-height expression source a b x y z taken first second k t eo ex ey ez hx hy ht is =
    whole-height expression taken _ k (need-as expression (e.Load source a b) _ eo (need_load source a b)) (pair-height a b x y z taken first second k t ex ey ez hx hy
    ht is)

pub divide-height : (expression a : Expr) (c : ℕ) (x : Expr) (taken first k : ℕ) → expression ≡ e.Divide a c → x ≡ a → IsHeight taken x first
    → ((m : ℕ) → first ≡ min (taken + m) 13 → k ≡ min (taken + max m (divisor_need c)) 13) → IsHeight taken expression k
divide-height expression a c x taken first k eo ex hx is =
    whole-height expression taken _ k (need-as expression (e.Divide a c) _ eo (need_divide a c)) (is (need a) (height-as taken x a first ex hx))

pub remainder-height : (expression a : Expr) (c : ℕ) (x : Expr) (taken first k : ℕ) → expression ≡ e.Remainder a c → x ≡ a → IsHeight taken x first
    → ((m : ℕ) → first ≡ min (taken + m) 13 → k ≡ min (taken + max m (divisor_need c)) 13) → IsHeight taken expression k
remainder-height expression a c x taken first k eo ex hx is =
    whole-height expression taken _ k (need-as expression (e.Remainder a c) _ eo (need_remainder a c)) (is (need a) (height-as taken x a first ex hx))

pub select-height : (expression c a b x y z : Expr) (taken first second third k : ℕ) → expression ≡ e.Select c a b → x ≡ c → y ≡ a → z ≡ b → IsHeight taken x first
    → IsHeight (taken + 1) y second → IsHeight (taken + 2) z third
    → ((l m n : ℕ) → first ≡ min (taken + l) 13 → second ≡ min (taken + 1 + m) 13 → third ≡ min (taken + 2 + n) 13
    → k ≡ min (taken + max l (max (1 + m) (2 + n))) 13) → IsHeight taken expression k
select-height expression c a b x y z taken first second third k eo ex ey ez hx hy hz is =
    whole-height expression taken _ k (need-as expression (e.Select c a b) _ eo (need_select c a b)) (is (need c) (need a) (need b) (height-as taken x c first ex hx)
    (height-as (taken + 1) y a second ey hy) (height-as (taken + 2) z b third ez hz))

-- registers that are all taken
pub none-left : (expression : Expr) (taken : ℕ) → 12 ≤ taken → IsHeight taken expression 13
none-left expression taken all = let s = need-some expression in omega (arith, all, s)
