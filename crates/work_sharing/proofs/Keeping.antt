-- One turn keeps the invariant of a phase.
use Rattle.std.proofs.Common.{◌≡◌, ℕ, zero, suc, ◌+◌, ◌<◌, ◌≤◌, List, [], ◌∷◌, length, set, Option, Some, refl, ap, ◌∙◌, sym, subst, arith, inl, inr}
use Rattle.std.proofs.Common.{length-set}
use Rattle.std.specs.Prelude.{◌≢◌, ◌⊎◌, slice_get}
use Rattle.std.proofs.lemmas.Bool.{cases_eq, cases_lt}
use Rattle.memory.specs.Access.{byte_at, put, AreBytes, NotIn, word_at}
use Rattle.memory.proofs.Putting.{length-put, byte-put}
use Rattle.memory.proofs.Words.{word-same}
use Rattle.memory.proofs.StaysBytes.{put-bytes}
use Rattle.hart_core.specs.HartState.{HartState}
use Rattle.multi_hart.specs.Run.{State, Within}
use Rattle.multi_hart.proofs.Framing.{slice_get-set_other}
use Rattle.multi_hart_laws.specs.Uses.{Use, Control, Fixed, Owned, Private, Job, Task, Setup, MayRead, MayWrite}
use Rattle.work_sharing.specs.Phases.{Phase}
use Rattle.work_sharing.specs.Solo.{Complete}
use Rattle.work_sharing.specs.Programs.{Link}
use Rattle.work_sharing.proofs.Roles.{Role, Before, Asked, Drawing, Drew, Inside, Adding, Looking, Looked, Leaving, Over, Has, is_past, has_added}
use Rattle.work_sharing.proofs.Roles.{total, IsDrawn, Holds, Held, Inv}

-- lists
pub slice_get-set_same : {X : Type 0} (xs : List X) (i : ℕ) (x y : X) → slice_get xs i ≡ Some x → slice_get (set xs i y) i ≡ Some y
slice_get-set_same [] i x y e = absurd (cc e)
slice_get-set_same (z ∷ xs) zero x y e = refl
slice_get-set_same (z ∷ xs) (suc i) x y e = slice_get-set_same xs i x y e

pub found : {X Y : Type 0} (xs : List X) (ys : List Y) (i : ℕ) (y : Y) → length xs ≡ length ys → slice_get ys i ≡ Some y → (x : X) × (slice_get xs i ≡ Some x)
found [] [] i y l e = absurd (cc e)
found [] (y1 ∷ ys) i y l e = absurd (omega arith)
found (x ∷ xs) [] i y l e = absurd (omega arith)
found (x ∷ xs) (y1 ∷ ys) zero y l e = (x, refl)
found (x ∷ xs) (y1 ∷ ys) (suc i) y l e = found xs ys i y (omega arith) e

pub total-set : (f : Role → ℕ) (rs : List Role) (k : ℕ) (r q : Role) → slice_get rs k ≡ Some r → total f (set rs k q) + f r ≡ total f rs + f q
total-set f [] k r q e = absurd (cc e)
total-set f (x ∷ rs) zero r q e = let u : x ≡ r = cc e in let v : f x ≡ f r = ap f u in omega (arith, v)
total-set f (x ∷ rs) (suc k) r q e = let u = total-set f rs k r q e in omega (arith, u)

pub same-get : {X : Type 0} (o : Option X) (x y : X) → o ≡ Some x → o ≡ Some y → x ≡ y
same-get o x y e f = cc

-- what a set leaves at a place
pub at-set : {X : Type 0} (xs : List X) (k l : ℕ) (x y z : X) → slice_get xs k ≡ Some x → slice_get (set xs k y) l ≡ Some z
    → (k ≡ l) × (z ≡ y) ⊎ (k ≢ l) × (slice_get xs l ≡ Some z)
at-set xs k l x y z e f =
    elim (cases_eq k l) [
      | inl q ↦ let g : slice_get (set xs k y) k ≡ Some z = subst (λ i. slice_get (set xs k y) i ≡ Some z) (sym q) f in
          inl (q, same-get _ z y g (slice_get-set_same xs k x y e))
      | inr q ↦ inr (q, sym (slice_get-set_other xs k l y q) ∙ f)
    ]

-- places
pub not-in : (P : ℕ → Type 0) (a : ℕ) (ps : List ℕ) → (P a → ⊥) → Within P ps → NotIn a ps
not-in P a [] n w = tt
not-in P a (b ∷ ps) n w = ((λ e. n (subst P (sym e) w.0)), not-in P a ps n w.1)

-- a byte of a control word
abbrev pub InWord : Phase → ℕ → ℕ → Type 0
InWord p w a = (p.uses a ≡ Control) × ((w ≤ a) × (a < w + 4))

-- what a turn of a role may write
abbrev pub Touch : Phase → ℕ → Role → ℕ → Type 0
Touch p k Before a = ⊥
Touch p k (Asked g) a = ⊥
Touch p k Drawing a = InWord p p.ticket a
Touch p k (Drew v) a = ⊥
Touch p k (Inside u j o) a = MayWrite u k (p.uses a)
Touch p k Adding a = InWord p p.gate a
Touch p k Looking a = ⊥
Touch p k (Looked g) a = ⊥
Touch p k Leaving a = ⊥
Touch p k Over a = ⊥

abbrev pub HasJob : Job → ℕ → Type 0
HasJob Setup t = ⊥
HasJob (Task u) t = u ≡ t

pub inside-clash : (k l : ℕ) (u x : Job) (y : Use) → MayWrite u k y → MayRead x l y → k ≢ l → ((t : ℕ) → HasJob u t → HasJob x t → ⊥) → ⊥
inside-clash k l Setup x y w r n f = w
inside-clash k l (Task u) Setup y w r n f = r
inside-clash k l (Task u) (Task t) Control w r n f = w
inside-clash k l (Task u) (Task t) Fixed w r n f = w
inside-clash k l (Task u) (Task t) (Owned v) w r n f = f u refl (sym r ∙ w)
inside-clash k l (Task u) (Task t) (Private v) w r n f = n (sym w ∙ r)

pub no-control : (x : Job) (l : ℕ) → MayRead x l Control → ⊥
no-control Setup l r = r
no-control (Task t) l r = r

pub no-control-write : (x : Job) (l : ℕ) → MayWrite x l Control → ⊥
no-control-write Setup l r = r
no-control-write (Task t) l r = r

control-clash : (l : ℕ) (x : Job) (y : Use) → y ≡ Control → MayRead x l y → ⊥
control-clash l x y e r = no-control x l (subst (MayRead x l) e r)

pub inside-has : (x : Job) (j : ℕ) (m : List ℕ) (t : ℕ) → HasJob x t → Has (Inside x j m) t
inside-has Setup j m t e = e
inside-has (Task u) j m t e = e

pub clash : (p : Phase) (k l : ℕ) (r : Role) (x : Job) (a : ℕ) → Touch p k r a → MayRead x l (p.uses a) → k ≢ l → ((t : ℕ) → Has r t → HasJob x t → ⊥) → ⊥
clash p k l Before x a w m n f = w
clash p k l (Asked g) x a w m n f = w
clash p k l Drawing x a w m n f = control-clash l x (p.uses a) w.0 m
clash p k l (Drew v) x a w m n f = w
clash p k l (Inside u j o) x a w m n f = inside-clash k l u x (p.uses a) w m n (λ t d. f t (inside-has u j o t d))
clash p k l Adding x a w m n f = control-clash l x (p.uses a) w.0 m
clash p k l Looking x a w m n f = w
clash p k l (Looked g) x a w m n f = w
clash p k l Leaving x a w m n f = w
clash p k l Over x a w m n f = w

-- nothing writes a fixed byte, and a task's bytes only who has it
no-fixed-write : (x : Job) (k : ℕ) → MayWrite x k Fixed → ⊥
no-fixed-write Setup k w = w
no-fixed-write (Task t) k w = w

pub not-fixed : (p : Phase) (k : ℕ) (r : Role) (a : ℕ) → p.uses a ≡ Fixed → Touch p k r a → ⊥
not-fixed p k Before a e w = w
not-fixed p k (Asked g) a e w = w
not-fixed p k Drawing a e w = let q : Control ≡ Fixed = sym w.0 ∙ e in cc q
not-fixed p k (Drew v) a e w = w
not-fixed p k (Inside u j o) a e w = no-fixed-write u k (subst (MayWrite u k) e w)
not-fixed p k Adding a e w = let q : Control ≡ Fixed = sym w.0 ∙ e in cc q
not-fixed p k Looking a e w = w
not-fixed p k (Looked g) a e w = w
not-fixed p k Leaving a e w = w
not-fixed p k Over a e w = w

inside-owner : (x : Job) (j : ℕ) (m : List ℕ) (k t : ℕ) → MayWrite x k (Owned t) → Has (Inside x j m) t
inside-owner Setup j m k t w = w
inside-owner (Task u) j m k t w = sym w

pub owner : (p : Phase) (k : ℕ) (r : Role) (a t : ℕ) → p.uses a ≡ Owned t → Touch p k r a → Has r t
owner p k Before a t e w = absurd w
owner p k (Asked g) a t e w = absurd w
owner p k Drawing a t e w = let q : Control ≡ Owned t = sym w.0 ∙ e in absurd (cc q)
owner p k (Drew v) a t e w = absurd w
owner p k (Inside u j o) a t e w = inside-owner u j o k t (subst (MayWrite u k) e w)
owner p k Adding a t e w = let q : Control ≡ Owned t = sym w.0 ∙ e in absurd (cc q)
owner p k Looking a t e w = absurd w
owner p k (Looked g) a t e w = absurd w
owner p k Leaving a t e w = absurd w
owner p k Over a t e w = absurd w

-- an earlier phase's gate
not-earlier : (p : Phase) → p.gate ≡ p.ticket + 4 → (k : ℕ) (r : Role) (a : ℕ) → p.uses a ≡ Control → a < p.ticket → Touch p k r a → ⊥
not-earlier p tw k Before a e l w = w
not-earlier p tw k (Asked g) a e l w = w
not-earlier p tw k Drawing a e l w = let q = w.1.0 in omega (arith, q, l)
not-earlier p tw k (Drew v) a e l w = w
not-earlier p tw k (Inside u j o) a e l w = no-control-write u k (subst (MayWrite u k) e w)
not-earlier p tw k Adding a e l w = let q = w.1.0 in omega (arith, q, l, tw)
not-earlier p tw k Looking a e l w = w
not-earlier p tw k (Looked g) a e l w = w
not-earlier p tw k Leaving a e l w = w
not-earlier p tw k Over a e l w = w

inside-below : (p : Phase) (top : ℕ) (x : Job) (t : ℕ) → IsDrawn p top x → HasJob x t → t < top
inside-below p top Setup t d e = absurd e
inside-below p top (Task u) t d e = let q = d.1 in omega (arith, q, e)

pub has-inside : (x : Job) (j : ℕ) (m : List ℕ) (t : ℕ) → Has (Inside x j m) t → HasJob x t
has-inside Setup j m t e = e
has-inside (Task u) j m t e = e

pub has-below : (q p : Phase) (top shut : ℕ) (mem : List ℕ) (k : ℕ) (h : HartState) (r : Role) (t : ℕ) → Holds q p top shut mem k h r → Has r t → t < top
has-below q p top shut mem k h Before t o e = absurd e
has-below q p top shut mem k h (Asked g) t o e = absurd e
has-below q p top shut mem k h Drawing t o e = absurd e
has-below q p top shut mem k h (Drew v) t o e = let d = o.1.1.0 in omega (arith, d, e)
has-below q p top shut mem k h (Inside u j m) t o e = inside-below p top u t o.drawn (has-inside u j m t e)
has-below q p top shut mem k h Adding t o e = absurd e
has-below q p top shut mem k h Looking t o e = absurd e
has-below q p top shut mem k h (Looked g) t o e = absurd e
has-below q p top shut mem k h Leaving t o e = absurd e
has-below q p top shut mem k h Over t o e = absurd e

has-either : (r : Role) (t : ℕ) → Has r t ⊎ (Has r t → ⊥)
has-either Before t = inr (λ e. e)
has-either (Asked g) t = inr (λ e. e)
has-either Drawing t = inr (λ e. e)
has-either (Drew v) t = cases_eq v t
has-either (Inside (Task u) j o) t = cases_eq u t
has-either (Inside Setup j o) t = inr (λ e. e)
has-either Adding t = inr (λ e. e)
has-either Looking t = inr (λ e. e)
has-either (Looked g) t = inr (λ e. e)
has-either Leaving t = inr (λ e. e)
has-either Over t = inr (λ e. e)

drawn-on : (p : Phase) (top top1 : ℕ) (x : Job) → top ≤ top1 → IsDrawn p top x → IsDrawn p top1 x
drawn-on p top top1 Setup l d = d
drawn-on p top top1 (Task t) l d = let q = d.1 in (d.0, omega (arith, q, l))

-- another hart's part is
stands-on : (z p : Phase) (top top1 shut shut1 : ℕ) (mem ps bs : List ℕ) (k l : ℕ) (h : HartState) (r q : Role) → top ≤ top1 → shut ≤ shut1 → k ≢ l
    → Within (Touch p k r) ps → ((t : ℕ) → Has q t → Has r t → ⊥) → Holds z p top shut mem l h q → Holds z p top1 shut1 (put mem ps bs) l h q
stands-on z p top top1 shut shut1 mem ps bs k l h r Before lt ls ne w f o = o
stands-on z p top top1 shut shut1 mem ps bs k l h r (Asked g) lt ls ne w f o = o
stands-on z p top top1 shut shut1 mem ps bs k l h r Drawing lt ls ne w f o = o
stands-on z p top top1 shut shut1 mem ps bs k l h r (Drew v) lt ls ne w f o = let q = o.1.1.0 in
    (o.0, (o.1.0, (omega (arith, q), λ a e. byte-put p.text mem ps bs a (not-in (Touch p k r) a ps (λ y. f v refl (owner p k r a v e y)) w) ∙ o.1.1.1 a e)))
stands-on z p top top1 shut shut1 mem ps bs k l h r (Inside x j m) lt ls ne w f o = record {
  drawn = drawn-on p top top1 x lt o.drawn;
  size = o.size;
  agree = λ a e. byte-put p.text mem ps bs a (not-in (Touch p k r) a ps (λ y. clash p k l r x a y e ne (λ t d g. f t (inside-has x j m t g) d)) w)
      ∙ o.agree a e;
  soon = o.soon;
}
stands-on z p top top1 shut shut1 mem ps bs k l h r Adding lt ls ne w f o = let q = o.1.0 in (o.0, (omega (arith, q), o.1.1))
stands-on z p top top1 shut shut1 mem ps bs k l h r Looking lt ls ne w f o = let q = o.1.0 in (o.0, (omega (arith, q), o.1.1))
stands-on z p top top1 shut shut1 mem ps bs k l h r (Looked g) lt ls ne w f o = let q = o.1.1.1.0 in let x = o.1.1.0 in
    (o.0, (o.1.0, (omega (arith, x), (omega (arith, q), o.1.1.1.1))))
stands-on z p top top1 shut shut1 mem ps bs k l h r Leaving lt ls ne w f o = let q = o.1.0 in (o.0, (omega (arith, q), o.1.1))
stands-on z p top top1 shut shut1 mem ps bs k l h r Over lt ls ne w f o = let q = o.1.0 in (o.0, (omega (arith, q), o.1.1))

-- what a hart's turn has to show
pub record Move (z p : Phase) (roles : List Role) (top : ℕ) (mem : List ℕ) (k : ℕ) (r r1 : Role) (top1 : ℕ) (h1 : HartState) (ps bs : List ℕ) : Type 0 where
  pub more : top ≤ top1
  pub adds : has_added r ≤ has_added r1
  pub touch : Within (Touch p k r) ps
  pub bytes : AreBytes bs
  pub holds : Holds z p top1 (total has_added (set roles k r1)) (put mem ps bs) k h1 r1
  pub tickets : word_at p.text (put mem ps bs) p.ticket ≡ top1
  pub gates : word_at p.text (put mem ps bs) p.gate ≡ total has_added (set roles k r1)
  pub bound : top1 ≤ p.tasks + total (is_past p.tasks) (set roles k r1)
  pub new : (t : ℕ) → Has r1 t → Has r t ⊎ (top ≤ t)
  pub drawn : (t : ℕ) → top ≤ t → t < top1 → Has r1 t
  pub old : (t : ℕ) → t < p.tasks → Has r t → Has r1 t ⊎ Complete p (put mem ps bs) t

abbrev pub moved : State → ℕ → HartState → List ℕ → List ℕ → State
moved s k h1 ps bs = record { text = s.text; memory = put s.memory ps bs; harts = set s.harts k h1 }

module _ (z p : Phase) (tw : p.gate ≡ p.ticket + 4) (roles : List Role) (top : ℕ) (s : State) (k : ℕ) (r : Role) (h : HartState) (v : Inv z p roles top s)
    (er : slice_get roles k ≡ Some r) (eh : slice_get s.harts k ≡ Some h) (r1 : Role) (top1 : ℕ) (h1 : HartState) (ps bs : List ℕ)
    (m : Move z p roles top s.memory k r r1 top1 h1 ps bs) where
  abbrev mem1 : List ℕ
  mem1 = put s.memory ps bs

  abbrev roles1 : List Role
  roles1 = set roles k r1

  more-added : total has_added roles ≤ total has_added roles1
  more-added = let e = total-set has_added roles k r r1 er in let d = m.adds in omega (arith, e, d)

  -- a byte that the hart's role does not write
  same-byte : (a : ℕ) → (Touch p k r a → ⊥) → byte_at p.text mem1 a ≡ byte_at p.text s.memory a
  same-byte a n = byte-put p.text s.memory ps bs a (not-in (Touch p k r) a ps n m.touch)

  earlier : (y : Link z p) (a : ℕ) → p.uses a ≡ Control → a < z.gate + 4 → byte_at p.text mem1 a ≡ byte_at p.text s.memory a
  earlier y a e l = same-byte a (not-earlier p tw k r a e (let q = y.before in omega (arith, q, l)))

  apart-from : (l : ℕ) (q : Role) (t : ℕ) → k ≢ l → slice_get roles l ≡ Some q → Has q t → Has r1 t → ⊥
  apart-from l q t ne el hq hr = elim (m.new t hr) [
    | inl o ↦ v.one_each k l r q t ne er el o hq
    | inr o ↦ let x = found s.harts roles l q (sym v.same) el in let y = has-below z p top (total has_added roles) s.memory l x.0 q t (v.holds l q x.0 el x.1)
        hq in absurd (omega (arith, o, y))
  ]

  holds1 : (l : ℕ) (q : Role) (g : HartState) → slice_get roles1 l ≡ Some q → slice_get (set s.harts k h1) l ≡ Some g
      → Holds z p top1 (total has_added roles1) mem1 l g q
  holds1 l q g el eg = elim (at-set roles k l r r1 q er el) [
    | inl a ↦ elim (at-set s.harts k l h h1 g eh eg) [
      | inl b ↦ subst (λ i. Holds z p top1 (total has_added roles1) mem1 i g q) a.0 (subst (λ x. Holds z p top1 (total has_added roles1) mem1 k x q) (sym b.1)
          (subst (λ x. Holds z p top1 (total has_added roles1) mem1 k h1 x) (sym a.1) m.holds))
      | inr b ↦ absurd (b.0 a.0)
    ]
    | inr a ↦ elim (at-set s.harts k l h h1 g eh eg) [
      | inl b ↦ absurd (a.0 b.0)
      | inr b ↦ stands-on z p top top1 (total has_added roles) (total has_added roles1) s.memory ps bs k l g r q m.more more-added a.0 m.touch
          (λ t x y. v.one_each k l r q t a.0 er a.1 y x) (v.holds l q g a.1 b.1)
    ]
  ]

  one_each1 : (i l : ℕ) (q w : Role) (t : ℕ) → i ≢ l → slice_get roles1 i ≡ Some q → slice_get roles1 l ≡ Some w → Has q t → Has w t → ⊥
  one_each1 i l q w t ne ei el hq hw = elim (at-set roles k i r r1 q er ei) [
    | inl a ↦ elim (at-set roles k l r r1 w er el) [
      | inl b ↦ ne (sym a.0 ∙ b.0)
      | inr b ↦ apart-from l w t b.0 b.1 hw (subst (λ x. Has x t) a.1 hq)
    ]
    | inr a ↦ elim (at-set roles k l r r1 w er el) [
      | inl b ↦ apart-from i q t a.0 a.1 hq (subst (λ x. Has x t) b.1 hw)
      | inr b ↦ v.one_each i l q w t ne a.1 b.1 hq hw
    ]
  ]

  mine : (t : ℕ) → Has r1 t → Held roles1 t
  mine t e = record { by = k; role = r1; at = slice_get-set_same roles k r r1 er; has = e }

  kept-held : (t : ℕ) → (Has r t → ⊥) → Held roles t → Held roles1 t
  kept-held t n d = record {
    by = d.by;
    role = d.role;
    at = slice_get-set_other roles k d.by r1 (λ e. n (subst (λ x. Has x t) (same-get (slice_get roles k) d.role r (subst (λ i. slice_get roles i ≡ Some d.role)
        (sym e) d.at) er) d.has)) ∙ d.at;
    has = d.has;
  }

  tasks1 : (t : ℕ) → t < p.tasks → t < top1 → Held roles1 t ⊎ Complete p mem1 t
  tasks1 t lt l1 = elim (cases_lt t top) [
    | inr o ↦ inl (mine t (m.drawn t o l1))
    | inl o ↦ elim (has-either r t) [
      | inl e ↦ elim (m.old t lt e) [ inl x ↦ inl (mine t x) | inr x ↦ inr x ]
      | inr n ↦ elim (v.tasks t lt o) [
        | inl d ↦ inl (kept-held t n d)
        | inr d ↦ inr (λ a e. same-byte a (λ w. n (owner p k r a t e w)) ∙ d a e)
      ]
    ]
  ]

  pub next : Inv z p roles1 top1 (moved s k h1 ps bs)
  next = record {
    text = v.text;
    size = length-put s.memory ps bs ∙ v.size;
    bytes = put-bytes s.memory ps bs v.bytes m.bytes;
    many = length-set s.harts k h1 ∙ v.many;
    same = length-set roles k r1 ∙ v.same ∙ sym (length-set s.harts k h1);
    holds = holds1;
    one_each = one_each1;
    tickets = m.tickets;
    gates = m.gates;
    bound = m.bound;
    came = λ y. word-same p.text mem1 s.memory z.gate (earlier y z.gate y.gate.first (omega arith)) (earlier y (z.gate + 1) y.gate.second (omega arith))
        (earlier y (z.gate + 2) y.gate.third (omega arith)) (earlier y (z.gate + 3) y.gate.fourth (omega arith)) ∙ v.came y;
    fixed = λ a e. same-byte a (λ w. not-fixed p k r a e w) ∙ v.fixed a e;
    waiting = λ a t e l. let l0 : top ≤ t = let q = m.more in omega (arith, q, l) in same-byte a (λ w. let y = has-below z p top (total has_added roles)
        s.memory k h r t (v.holds k r h er eh) (owner p k r a t e w) in absurd (omega (arith, y, l0))) ∙ v.waiting a t e l0;
    tasks = tasks1;
  }
