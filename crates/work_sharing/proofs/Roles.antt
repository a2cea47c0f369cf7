-- The invariant of a program's runs: where each hart is, and what holds of the state by that.
use Rattle.std.proofs.Common.{◌≡◌, ℕ, zero, suc, ◌+◌, ◌<◌, ◌≤◌, false, List, [], ◌∷◌, length, set, Some}
use Rattle.std.specs.Prelude.{◌≢◌, ◌⊎◌, if◌then◌else◌, slice_get, slice_index, nat_le}
use Rattle.memory.specs.Access.{byte_at, AreBytes, word_at}
use Rattle.hart_core.specs.declared.harts.Status.TheVariants.{Finished as Done}
use Rattle.hart_core.specs.HartState.{HartState}
use Rattle.multi_hart.specs.Run.{State}
use Rattle.multi_hart_laws.specs.Uses.{Fixed, Owned, Job, Task, Setup, MayRead}
use Rattle.work_sharing.specs.Phases.{Phase, Stands, HasGate, HasEnd}
use Rattle.work_sharing.specs.Solo.{Complete, SoonDone}
use Rattle.work_sharing.specs.Programs.{Link}

-- where a hart is: on its way from the gate before, in the draw, in a task, at the gate, or at its end
pub data Role : Type 0 where
  Before : Role
  Asked : (g : ℕ) → Role
  Drawing : Role
  Drew : (v : ℕ) → Role
  Inside : (t : Job) (j : ℕ) (m : List ℕ) → Role
  Adding : Role
  Looking : Role
  Looked : (g : ℕ) → Role
  Leaving : Role
  Over : Role

-- it holds a task
abbrev pub Has : Role → ℕ → Type 0
Has Before t = ⊥
Has (Asked g) t = ⊥
Has Drawing t = ⊥
Has (Drew v) t = v ≡ t
Has (Inside (Task u) j m) t = u ≡ t
Has (Inside Setup j m) t = ⊥
Has Adding t = ⊥
Has Looking t = ⊥
Has (Looked g) t = ⊥
Has Leaving t = ⊥
Has Over t = ⊥

-- it has drawn a number past the last task
abbrev pub is_past : ℕ → Role → ℕ
is_past n Before = 0
is_past n (Asked g) = 0
is_past n Drawing = 0
is_past n (Drew v) = if nat_le n v then 1 else 0
is_past n (Inside u j m) = 0
is_past n Adding = 1
is_past n Looking = 1
is_past n (Looked g) = 1
is_past n Leaving = 1
is_past n Over = 1

-- it has added to the gate
abbrev pub has_added : Role → ℕ
has_added Before = 0
has_added (Asked g) = 0
has_added Drawing = 0
has_added (Drew v) = 0
has_added (Inside u j m) = 0
has_added Adding = 0
has_added Looking = 1
has_added (Looked g) = 1
has_added Leaving = 0
has_added Over = 0

abbrev pub total : (Role → ℕ) → List Role → ℕ
total f [] = 0
total f (r ∷ rs) = f r + total f rs

abbrev pub IsDrawn : Phase → ℕ → Job → Type 0
IsDrawn p top Setup = Unit {0}
IsDrawn p top (Task t) = (t < p.tasks) × (t < top)

-- a job under way, with j turns left after the next: on the memory m, which agrees with the machine's where the job may read, it would be done
pub record Under (p : Phase) (top : ℕ) (mem : List ℕ) (k : ℕ) (h : HartState) (t : Job) (j : ℕ) (m : List ℕ) : Type 0 where
  pub drawn : IsDrawn p top t
  pub size : length m ≡ p.size
  pub agree : (a : ℕ) → MayRead t k (p.uses a) → byte_at p.text mem a ≡ byte_at p.text m a
  pub soon : SoonDone p t k (suc j) h m

-- the role's part of the state: q is the phase before, top the next number to draw, shut the number of harts that have added
abbrev pub Holds : Phase → Phase → ℕ → ℕ → List ℕ → ℕ → HartState → Role → Type 0
Holds q p top shut mem k h Before = Link q p × Stands q k h (q.door + 4)
Holds q p top shut mem k h (Asked g) = Link q p × (Stands q k h (q.door + 8) × (slice_index h.registers 17 ≡ g))
Holds q p top shut mem k h Drawing = Stands p k h p.draw_code
Holds q p top shut mem k h (Drew v) = Stands p k h (p.draw_code + 4) × ((slice_index h.registers 12 ≡ v) × ((v < top) × ((a : ℕ) → p.uses a ≡ Owned v
    → byte_at p.text mem a ≡ p.start a)))
Holds q p top shut mem k h (Inside t j m) = Under p top mem k h t j m
Holds q p top shut mem k h Adding = Stands p k h p.door × ((p.tasks < top) × HasGate p)
Holds q p top shut mem k h Looking = Stands p k h (p.door + 4) × ((p.tasks < top) × HasGate p)
Holds q p top shut mem k h (Looked g) = Stands p k h (p.door + 8) × ((slice_index h.registers 17 ≡ g) × ((g ≤ shut) × ((p.tasks < top) × HasGate p)))
Holds q p top shut mem k h Leaving = Stands p k h p.door × ((p.tasks < top) × HasEnd p)
Holds q p top shut mem k h Over = (h.status ≡ Done) × ((p.tasks < top) × HasEnd p)

pub record Held (roles : List Role) (t : ℕ) : Type 0 where
  pub by : ℕ
  pub role : Role
  pub at : slice_get roles by ≡ Some role
  pub has : Has role t

-- the state in the phase p, after the phase q, with a role for each hart
pub record Inv (q p : Phase) (roles : List Role) (top : ℕ) (s : State) : Type 0 where
  pub text : s.text ≡ p.text
  pub size : length s.memory ≡ p.size
  pub bytes : AreBytes s.memory
  pub many : length s.harts ≡ p.harts
  pub same : length roles ≡ length s.harts
  pub holds : (k : ℕ) (r : Role) (h : HartState) → slice_get roles k ≡ Some r → slice_get s.harts k ≡ Some h
      → Holds q p top (total has_added roles) s.memory k h r
  pub one_each : (k l : ℕ) (r q : Role) (t : ℕ) → k ≢ l → slice_get roles k ≡ Some r → slice_get roles l ≡ Some q → Has r t → Has q t → ⊥
  pub tickets : word_at p.text s.memory p.ticket ≡ top
  pub gates : word_at p.text s.memory p.gate ≡ total has_added roles
  pub came : Link q p → word_at p.text s.memory q.gate ≡ p.harts
  pub bound : top ≤ p.tasks + total (is_past p.tasks) roles
  pub fixed : (a : ℕ) → p.uses a ≡ Fixed → byte_at p.text s.memory a ≡ p.start a
  pub waiting : (a t : ℕ) → p.uses a ≡ Owned t → top ≤ t → byte_at p.text s.memory a ≡ p.start a
  pub tasks : (t : ℕ) → t < p.tasks → t < top → Held roles t ⊎ Complete p s.memory t

-- in the phase p, after the phase q
pub record InPhase (q p : Phase) (s : State) : Type 0 where
  pub roles : List Role
  pub top : ℕ
  pub inv : Inv q p roles top s

-- what a turn makes of a role, and of the next number to draw
abbrev pub Becomes : Phase → ℕ → ℕ → Role → Role → ℕ → Type 0
Becomes p top shut Before r1 top1 = (top1 ≡ top) × (r1 ≡ Asked p.harts)
Becomes p top shut (Asked g) r1 top1 = (top1 ≡ top) × (((g ≡ p.harts) × ((m : List ℕ) × (r1 ≡ Inside Setup (p.turns Setup) m)))
    ⊎ ((g ≢ p.harts) × (r1 ≡ Before)))
Becomes p top shut Drawing r1 top1 = (top1 ≡ top + 1) × (r1 ≡ Drew top)
Becomes p top shut (Drew v) r1 top1 = (top1 ≡ top) × (((v < p.tasks) × ((m : List ℕ) × (r1 ≡ Inside (Task v) (p.turns (Task v)) m)))
    ⊎ ((p.tasks ≤ v) × ((HasGate p × (r1 ≡ Adding)) ⊎ (HasEnd p × (r1 ≡ Leaving)))))
Becomes p top shut (Inside x zero m) r1 top1 = (top1 ≡ top) × (r1 ≡ Drawing)
Becomes p top shut (Inside x (suc j) m) r1 top1 = (top1 ≡ top) × ((m1 : List ℕ) × (r1 ≡ Inside x j m1))
Becomes p top shut Adding r1 top1 = (top1 ≡ top) × (r1 ≡ Looking)
Becomes p top shut Looking r1 top1 = (top1 ≡ top) × (r1 ≡ Looked shut)
Becomes p top shut (Looked g) r1 top1 = (top1 ≡ top) × (r1 ≡ Looking)
Becomes p top shut Leaving r1 top1 = (top1 ≡ top) × (r1 ≡ Over)
Becomes p top shut Over r1 top1 = (top1 ≡ top) × (r1 ≡ Over)

-- the state after a turn of the hart k, whose role is r
pub record Turned (q p : Phase) (roles : List Role) (old : ℕ) (k : ℕ) (r : Role) (s : State) : Type 0 where
  pub role : Role
  pub top : ℕ
  pub becomes : Becomes p old (total has_added roles) r role top
  pub inv : Inv q p (set roles k role) top s

-- a phase with no text, from which nothing leads to another: it is before the first
abbrev pub nowhere : Phase
nowhere = record {
  text = [];
  size = 0;
  harts = 0;
  tasks = 0;
  draw_code = 0;
  door = 0;
  ticket = 0;
  gate = 0;
  uses = λ a. Fixed;
  writes = λ t a. false;
  rule = λ t ps. false;
  turns = λ x. 0;
  start = λ a. 0;
  result = λ a. 0;
}

abbrev pub prior : (ℕ → Phase) → ℕ → Phase
prior ph zero = nowhere
prior ph (suc c) = ph c

pub record InProgram (ph : ℕ → Phase) (last : ℕ) (s : State) : Type 0 where
  pub at : ℕ
  pub within : at ≤ last
  pub phase : InPhase (prior ph at) (ph at) s
  pub still_open : (at ≡ last) ⊎ (total has_added phase.roles < (ph at).harts)
