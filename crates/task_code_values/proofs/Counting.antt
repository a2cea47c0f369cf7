-- Needs, counted up to 2,000.
use Rattle.std.proofs.Common.{◌≡◌, ℕ, ◌+◌, Bool, ap, ◌∙◌, sym}
use Rattle.std.specs.Prelude.{max, min, if◌then◌else◌}
use Rattle.halide_pipeline.specs.declared.expressions.Operation.{Operation}
use Rattle.halide_pipeline.specs.declared.expressions.Source.{Source}
use Rattle.loop_ir.specs.declared.expressions.Expr.{Expr}
use Rattle.loop_ir.specs.declared.expressions.Expr.TheVariants as e
use Rattle.loop_ir.specs.Needs.{Need, beside_first, divisor_need, need_of, need}
use Rattle.loop_ir.proofs.Needs.{need_binary, need_divide, need_remainder, need_select, need_load}

counted-as : (x a : Expr) (k : ℕ) → x ≡ a → k ≡ min (need x) 2000 → k ≡ min (need a) 2000
counted-as x a k ex is = is ∙ ap (λ (y : Expr). min (need y) 2000) ex

whole : (expression total : Expr) (n : Need) (k : ℕ) → expression ≡ total → need_of total ≡ n → k ≡ min n.count 2000 → k ≡ min (need expression) 2000
whole expression total n k eo en is = is ∙ sym (ap (λ (y : Need). min y.count 2000) (ap need_of eo ∙ en))

pair-counted : (a b x y z : Expr) (f s k : ℕ) (t : Bool) → x ≡ a → y ≡ b → z ≡ b → f ≡ min (need x) 2000 → t ≡ (need_of y).is_leaf → s ≡ min (need z) 2000
    → ((m n : ℕ) → f ≡ min m 2000 → s ≡ min n 2000 → k ≡ min (max m (if t then 0 else 1 + n)) 2000)
    → k ≡ min (max (need a) (beside_first (need_of b))) 2000
pair-counted a b x y z f s k t ex ey ez cf ct cs is =
    is (need a) (need b) (counted-as x a f ex cf) (counted-as z b s ez cs)
    ∙ ap (λ (u : Bool). min (max (need a) (if u then 0 else 1 + need b)) 2000) (ct ∙ ap (λ (q : Expr). (need_of q).is_leaf) ey)

pub binary-counted : (expression : Expr) (o : Operation) (a b x y z : Expr) (f s k : ℕ) (t : Bool) → expression ≡ e.Binary o a b → x ≡ a → y ≡ b → z ≡ b
    → f ≡ min (need x) 2000
    → t ≡ (need_of y).is_leaf → s ≡ min (need z) 2000 → ((m n : ℕ) → f ≡ min m 2000 → s ≡ min n 2000 → k ≡ min (max m (if t then 0 else 1 + n)) 2000)
    → k ≡ min (need expression) 2000
binary-counted expression o a b x y z f s k t eo ex ey ez cf ct cs is =
    whole expression (e.Binary o a b) _ k eo (need_binary o a b) (pair-counted a b x y z f s k t ex ey ez cf ct cs is)

pub load-counted : (expression : Expr) (source : Source) (a b x y z : Expr) (f s k : ℕ) (t : Bool) → expression ≡ e.Load source a b → x ≡ a → y ≡ b → z ≡ b
    → f ≡ min (need x) 2000 → t ≡ (need_of y).is_leaf → s ≡ min (need z) 2000
    → ((m n : ℕ) → f ≡ min m 2000 → s ≡ min n 2000 → k ≡ min (max m (if t then 0 else 1 + n)) 2000) → k ≡ min (need expression) 2000
load-counted expression source a b x y z f s k t eo ex ey ez cf ct cs is =
    whole expression (e.Load source a b) _ k eo (need_load source a b)
    (pair-counted a b x y z f s k t ex ey ez cf ct cs is)

pub divide-counted : (expression a : Expr) (c : ℕ) (x : Expr) (f k : ℕ) → expression ≡ e.Divide a c → x ≡ a
    → f ≡ min (need x) 2000
    → ((m : ℕ) → f ≡ min m 2000 → k ≡ min (max m (divisor_need c)) 2000) → k ≡ min (need expression) 2000
divide-counted expression a c x f k eo ex cf is = whole expression (e.Divide a c) _ k eo (need_divide a c) (is (need a) (counted-as x a f ex cf))

pub remainder-counted : (expression a : Expr) (c : ℕ) (x : Expr) (f k : ℕ) → expression ≡ e.Remainder a c → x ≡ a → f ≡ min (need x) 2000
    → ((m : ℕ) → f ≡ min m 2000 → k ≡ min (max m (divisor_need c)) 2000) → k ≡ min (need expression) 2000
remainder-counted expression a c x f k eo ex cf is = whole expression (e.Remainder a c) _ k eo (need_remainder a c) (is (need a) (counted-as x a f ex cf))

pub select-counted : (expression c a b x y z : Expr) (f s u k : ℕ) → expression ≡ e.Select c a b → x ≡ c → y ≡ a → z ≡ b → f ≡ min (need x) 2000 → s ≡ min (need y) 2000
    → u ≡ min (need z) 2000
    → ((l m n : ℕ) → f ≡ min l 2000 → s ≡ min m 2000 → u ≡ min n 2000 → k ≡ min (max l (max (1 + m) (2 + n))) 2000) → k ≡ min (need expression) 2000
select-counted expression c a b x y z f s u k eo ex ey ez cf cs cu is =
    whole expression (e.Select c a b) _ k eo (need_select c a b) (is (need c) (need a) (need b) (counted-as x c f ex cf) (counted-as y a s ey cs)
    (counted-as z b u ez cu))
