-- Words that are counted up to a number are as many as may be asked for, or that number.
use Rattle.std.proofs.Common.{◌≡◌, ℕ, zero, suc, inl, inr, ◌+◌, ◌*◌, ◌≤◌, length, Bool, true, false, ap, ◌∙◌, sym, subst, arith}
use Rattle.std.specs.Prelude.{if◌then◌else◌, min}
use Rattle.std.proofs.lemmas.Bool.{cases_lt}
use Rattle.halide_pipeline.specs.declared.expressions.Operation.{Operation}
use Rattle.halide_pipeline.specs.declared.expressions.Source.{Source}
use Rattle.loop_ir.specs.declared.expressions.Counter.{Counter}
use Rattle.loop_ir.specs.declared.expressions.Expr.{Expr}
use Rattle.loop_ir.specs.declared.expressions.Expr.TheVariants as e
use Rattle.loop_ir.specs.declared.expressions.Linear.{Linear}
use Rattle.loop_ir.specs.declared.statements.LoopKind.{LoopKind}
use Rattle.loop_ir.specs.declared.statements.Store.{Store}
use Rattle.loop_ir.specs.declared.statements.Stmt.{Stmt}
use Rattle.loop_ir.specs.declared.statements.Stmt.TheVariants as s
use Rattle.loop_ir.specs.declared.statements.Whole.{Whole}
use Rattle.loop_ir.specs.Sizes.{Size, kept, size, size_of, are_copies, is_laid_out, loop_size, loop_room, whole_size, store_size}
use Rattle.loop_ir.proofs.Sizes.{size_number, size_linear, size_binary, size_divide, size_remainder, size_select, size_load, whole_store, whole_sequence}
use Rattle.loop_ir.proofs.Sizes.{whole_for, whole_bind}

-- what a sum up to the number promises
abbrev Sums : ℕ → ℕ → ℕ → Type 0
Sums a b c = (m n : ℕ) → a ≡ min m 262144 → b ≡ min n 262144 → c ≡ min (m + n) 262144

few : (own_size : Size) (leaf : Bool) (more q : ℕ) → leaf ≡ own_size.is_leaf → q ≡ (if leaf then 0 else 15) + more → more ≤ 100 → q ≡ min (kept own_size + more) 262144
few own_size leaf more q el eq l = by own_size.is_leaf (eq ∙ ap (λ t. (if t then 0 else 15) + more) el)
  where
    by : (t : Bool) → q ≡ (if t then 0 else 15) + more → q ≡ min ((if t then 0 else 15) + more) 262144
    by true k = omega (arith, k, l)
    by false k = omega (arith, k, l)

of-it : (x a : Expr) (k : ℕ) → x ≡ a → k ≡ min (size x) 262144 → k ≡ min (size a) 262144
of-it x a k ex ek = ek ∙ ap (λ y. min (size y) 262144) ex

words-of : (expression kind : Expr) (n : ℕ) → expression ≡ kind → size kind ≡ n
    → min n 262144 ≡ min (size expression) 262144
words-of expression kind n is en = ap (λ m. min m 262144) (sym (ap size is ∙ en))

pub number-sized : (expression : Expr) (n : ℕ) → expression ≡ e.Number n → 2 ≡ min (size expression) 262144
number-sized expression n is = let k = words-of expression (e.Number n) 2 is (ap (λ (z : Size). z.words) (size_number n)) in let g : 2 ≡ min 2 262144 = omega arith in g ∙ k

pub linear-sized : (expression : Expr) (sum : Linear) (n k : ℕ) → expression ≡ e.Linear sum → n ≡ length sum.terms → k ≡ min (2 + 4 * n) 262144 → k ≡ min (size expression) 262144
linear-sized expression sum n k is en ek = ek ∙ ap (λ m. min (2 + 4 * m) 262144) en ∙ words-of expression (e.Linear sum) (2 + 4 * length sum.terms) is
    (ap (λ (z : Size). z.words) (size_linear sum))

pub binary-sized : (expression a b x y z : Expr) (o : Operation) (k l p q r : ℕ) (leaf : Bool) → expression ≡ e.Binary o a b → x ≡ a → y ≡ b → z ≡ b → k ≡ min (size x) 262144
    → l ≡ min (size y) 262144 → leaf ≡ (size_of z).is_leaf
    → q ≡ (if leaf then 0 else 15) + 4 → Sums k l p → Sums p q r → r ≡ min (size expression) 262144
binary-sized expression a b x y z o k l p q r leaf is ex ey ez ek el et eq first last =
    let ep = first (size a) (size b) (of-it x a k ex ek) (of-it y b l ey el) in
    let fq = few (size_of b) leaf 4 q (et ∙ ap (λ w. (size_of w).is_leaf) ez) eq (omega arith) in
    let er = last (size a + size b) (kept (size_of b) + 4) ep fq in
    let same : size a + size b + (kept (size_of b) + 4) ≡ size a + size b + kept (size_of b) + 4 = omega arith in
    er ∙ ap (λ m. min m 262144) same ∙ words-of expression (e.Binary o a b) (size a + size b + kept (size_of b) + 4) is (ap (λ (w : Size). w.words)
    (size_binary o a b))

pub load-sized : (expression a b x y z : Expr) (source : Source) (k l p q r : ℕ) (leaf : Bool) → expression ≡ e.Load source a b → x ≡ a → y ≡ b → z ≡ b
    → k ≡ min (size x) 262144 → l ≡ min (size y) 262144 → leaf ≡ (size_of z).is_leaf
    → q ≡ (if leaf then 0 else 15) + 13 → Sums k l p → Sums p q r → r ≡ min (size expression) 262144
load-sized expression a b x y z source k l p q r leaf is ex ey ez ek el et eq first last =
    let ep = first (size a) (size b) (of-it x a k ex ek) (of-it y b l ey el) in
    let fq = few (size_of b) leaf 13 q (et ∙ ap (λ w. (size_of w).is_leaf) ez) eq (omega arith) in
    let er = last (size a + size b) (kept (size_of b) + 13) ep fq in
    let same : size a + size b + (kept (size_of b) + 13) ≡ size a + size b + kept (size_of b) + 13 = omega arith in
    er ∙ ap (λ m. min m 262144) same ∙ words-of expression (e.Load source a b) (size a + size b + kept (size_of b) + 13) is (ap (λ (w : Size). w.words)
    (size_load source a b))

pub divide-sized : (expression a x : Expr) (c k r : ℕ) → expression ≡ e.Divide a c → x ≡ a → k ≡ min (size x) 262144 → Sums k 11 r → r ≡ min (size expression) 262144
divide-sized expression a x c k r is ex ek sum =
    sum (size a) 11 (of-it x a k ex ek) (let g : 11 ≡ min 11 262144 = omega arith in g)
    ∙ words-of expression (e.Divide a c) (size a + 11) is (ap (λ (w : Size). w.words) (size_divide a c))

pub remainder-sized : (expression a x : Expr) (c k r : ℕ) → expression ≡ e.Remainder a c → x ≡ a → k ≡ min (size x) 262144 → Sums k 13 r → r ≡ min (size expression) 262144
remainder-sized expression a x c k r is ex ek sum =
    sum (size a) 13 (of-it x a k ex ek) (let g : 13 ≡ min 13 262144 = omega arith in g)
    ∙ words-of expression (e.Remainder a c) (size a + 13) is (ap (λ (w : Size). w.words) (size_remainder a c))

pub select-sized : (expression c a b x y z : Expr) (k l m p q r : ℕ) → expression ≡ e.Select c a b → x ≡ c → y ≡ a → z ≡ b → k ≡ min (size x) 262144 → l ≡ min (size y) 262144
    → m ≡ min (size z) 262144
    → Sums k l p → Sums p m q → Sums q 33 r → r ≡ min (size expression) 262144
select-sized expression c a b x y z k l m p q r is ex ey ez ek el em first second last =
    let ep = first (size c) (size a) (of-it x c k ex ek) (of-it y a l ey el) in
    let eq = second (size c + size a) (size b) ep (of-it z b m ez em) in
    last (size c + size a + size b) 33 eq (let g : 33 ≡ min 33 262144 = omega arith in g) ∙ words-of expression (e.Select c a b) (size c + size a + size b + 33) is
    (ap (λ (w : Size). w.words) (size_select c a b))

-- ---- copies

-- this many times a number that is counted up to the limit
times-is : (count size n : ℕ) → size ≡ min n 262144 → min (count * size) 262144 ≡ min (count * n) 262144
times-is zero size n e = omega arith
times-is (suc k) size n e = elim (cases_lt n 262144) [
  | inl l ↦ let same : size ≡ n = omega (arith, e, l) in ap (λ (z : ℕ). min (suc k * z) 262144) same
  | inr l ↦ omega (arith, e, l)
]

one : 1 ≡ min 1 262144
one = omega arith

-- a loop that is laid out, from the sizes of a copy, of all copies and of the loop
pub laid-size : (laid : Bool) (count body copy copies r : ℕ) → are_copies laid count ≡ true → Sums body 1 copy → copies ≡ min (count * copy) 262144
    → Sums copies 1 r
    → (n : ℕ) → body ≡ min n 262144 → r ≡ min (loop_size laid count n) 262144
laid-size laid count body copy copies r e first all last n is =
    let a = first n 1 is one in
    let b = last (count * (n + 1)) 1 (all ∙ times-is count copy (n + 1) a) one in
    subst (λ (t : Bool). r ≡ min (if t then count * (n + 1) + 1 else n + 7) 262144) (sym e) b

-- ---- statements

of-part : (x a : Stmt) (k : ℕ) → x ≡ a → k ≡ min (whole_size x) 262144 → k ≡ min (whole_size a) 262144
of-part x a k ex ek = ek ∙ ap (λ y. min (whole_size y) 262144) ex

whole-of : (statement kind : Stmt) (n : ℕ) → statement ≡ kind → whole_size kind ≡ n
    → min n 262144 ≡ min (whole_size statement) 262144
whole-of statement kind n is en = ap (λ m. min m 262144) (sym (ap whole_size is ∙ en))

pub store-whole : (statement : Stmt) (store : Store) (k : ℕ) → statement ≡ s.Store store → k ≡ min (store_size store) 262144 → k ≡ min (whole_size statement) 262144
store-whole statement store k is ek = ek ∙ whole-of statement (s.Store store) (store_size store) is (whole_store store)

pub sequence-whole : (statement a b x y : Stmt) (k l r : ℕ) → statement ≡ s.Sequence a b → x ≡ a → y ≡ b → k ≡ min (whole_size x) 262144 → l ≡ min (whole_size y) 262144
    → Sums k l r → r ≡ min (whole_size statement) 262144
sequence-whole statement a b x y k l r is ex ey ek el sum =
    sum (whole_size a) (whole_size b) (of-part x a k ex ek) (of-part y b l ey el) ∙ whole-of statement (s.Sequence a b) (whole_size a + whole_size b) is
    (whole_sequence a b)

pub for-whole : (statement body x : Stmt) (counter : Counter) (count : ℕ) (kind : LoopKind) (laid : Bool) (k l r : ℕ) → statement ≡ s.For counter count kind body → x ≡ body
    → laid ≡ is_laid_out kind → k ≡ min (whole_size x) 262144
    → ((n : ℕ) → k ≡ min n 262144 → l ≡ min (loop_size laid count n) 262144) → Sums l 31 r → r ≡ min (whole_size statement) 262144
for-whole statement body x counter count kind laid k l r is ex el ek sized sum =
    sum (loop_size laid count (whole_size body)) 31 (sized (whole_size body) (of-part x body k ex ek)) (let g : 31 ≡ min 31 262144 = omega arith in g)
    ∙ ap (λ (b : Bool). min (loop_room b count (whole_size body)) 262144) el
    ∙ whole-of statement (s.For counter count kind body) (loop_room (is_laid_out kind) count (whole_size body)) is (whole_for counter count kind body)

pub bind-whole : (statement body x : Stmt) (counter : Counter) (whole : Whole) (extent k r : ℕ) → statement ≡ s.Bind counter whole extent body → x ≡ body
    → k ≡ min (whole_size x) 262144 → Sums k 25 r → r ≡ min (whole_size statement) 262144
bind-whole statement body x counter whole extent k r is ex ek sum =
    sum (whole_size body) 25 (of-part x body k ex ek) (let g : 25 ≡ min 25 262144 = omega arith in g)
    ∙ whole-of statement (s.Bind counter whole extent body) (whole_size body + 25) is
    (whole_bind counter whole extent body)
