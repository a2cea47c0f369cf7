-- Nests of loops.
use Rattle.std.proofs.Common.{◌≡◌, ℕ, ◌<◌, ◌≤◌, Bool, false, List, [], ◌∷◌, ◌++◌, refl, ap, subst, ◌∙◌, arith, inl, inr}
use Rattle.std.specs.Prelude.{if◌then◌else◌, filter}
use Rattle.schedule_lines.specs.declared.stages.Loop.{Loop}
use Rattle.schedule_lines.specs.declared.stages.LoopId.{LoopId}
use Rattle.schedule_lines.specs.Directives.{same_id}
use Rattle.schedule_lines.specs.Making.{total}
use Rattle.schedule_loops.specs.Visits.{Values, with, upto, nest}
use Rattle.schedule_loops.proofs.Iterations.{upto_same, filter-upto}
use Rattle.schedule_loops.proofs.Ids.{cases_id, swapped_id, with_same, with_other, same_id-self}

-- 1 for the loop that is this one
abbrev pub has_id : LoopId → Loop → ℕ
has_id id stage_loop = if same_id stage_loop.id id then 1 else 0

-- The value of each of the loops is one of its iterations.
abbrev pub InRange : Values → List Loop → Values → Type 0
InRange counts loops values = (id : LoopId) → 1 ≤ total (has_id id) loops → values id < counts id

pub has_other : (id : LoopId) (stage_loop : Loop) → same_id stage_loop.id id ≡ false → has_id id stage_loop ≡ 0
has_other id stage_loop d = rw d refl

pub has_same : (stage_loop : Loop) → has_id stage_loop.id stage_loop ≡ 1
has_same stage_loop = rw (same_id-self stage_loop.id) refl

pub in_range_more : (counts : Values) (stage_loop : Loop) (outside : List Loop) (values : Values) (n : ℕ) → InRange counts outside values → n < counts stage_loop.id
    → InRange counts (stage_loop ∷ outside) (with stage_loop.id n values)
in_range_more counts stage_loop outside values n in_range l id there = elim (cases_id stage_loop.id id) [
  | inl e ↦ subst (λ (i : LoopId). with stage_loop.id n values i < counts i) e
      (omega (arith, with_same stage_loop.id n values, l))
  | inr d ↦
      let out : 1 ≤ total (has_id id) outside = omega (arith, has_other id stage_loop d, there) in
      omega (arith, with_other stage_loop.id n values id (swapped_id stage_loop.id id d), in_range id out)
]

-- bodies that list the same under all iterations do so in a nest
pub nest_same : {A : Type 0} (counts : Values) (loops : List Loop) (f g : Values → List A) → ((values : Values) → InRange counts loops values
    → f values ≡ g values)
    → (values : Values) → nest counts loops f values ≡ nest counts loops g values
nest_same counts [] f g same values = same values (λ id there. absurd (omega arith))
nest_same counts (own ∷ outside) f g same values =
    nest_same counts outside (λ outer. upto (counts own.id) (λ iteration. f (with own.id iteration outer))) (λ outer. upto (counts own.id)
    (λ iteration. g (with own.id iteration outer)))
    (λ outer in_range. upto_same (counts own.id) (λ iteration. f (with own.id iteration outer)) (λ iteration. g (with own.id iteration outer))
    (λ iteration l. same (with own.id iteration outer) (in_range_more counts own outside outer iteration in_range l)))
    values

pub nest-append : {A : Type 0} (counts : Values) (inside outside : List Loop) (body : Values → List A) (values : Values)
    → nest counts (inside ++ outside) body values ≡ nest counts outside (nest counts inside body) values
nest-append counts [] outside body values = refl
nest-append counts (own ∷ inside) outside body values = nest-append counts inside outside (λ outer. upto (counts own.id)
    (λ iteration. body (with own.id iteration outer))) values

-- what passes a test in a nest
pub filter-nest : {A : Type 0} (test : A → Bool) (counts : Values) (loops : List Loop) (body : Values → List A) (values : Values)
    → filter test (nest counts loops body values) ≡ nest counts loops (λ v. filter test (body v)) values
filter-nest test counts [] body values = refl
filter-nest test counts (own ∷ outside) body values =
    filter-nest test counts outside (λ outer. upto (counts own.id) (λ iteration. body (with own.id iteration outer))) values
    ∙ nest_same counts outside (λ outer. filter test (upto (counts own.id) (λ iteration. body (with own.id iteration outer)))) (λ outer. upto (counts own.id)
    (λ iteration. filter test (body (with own.id iteration outer))))
    (λ outer in_range. filter-upto test (counts own.id) (λ iteration. body (with own.id iteration outer))) values

-- Each of the loops has as many iterations by one count as by another.
abbrev pub SameCounts : Values → Values → List Loop → Type 0
SameCounts one other [] = Unit {0}
SameCounts one other (own ∷ outside) = (one own.id ≡ other own.id) × SameCounts one other outside

pub nest_counts : {A : Type 0} (one other : Values) (loops : List Loop) (body : Values → List A) → SameCounts one other loops → (values : Values)
    → nest one loops body values ≡ nest other loops body values
nest_counts one other [] body same values = refl
nest_counts {A} one other (own ∷ outside) body same values =
    nest_counts one other outside (λ outer. upto (one own.id) (λ iteration. body (with own.id iteration outer))) same.1 values
    ∙ ap (λ (n : ℕ). nest other outside (λ outer. upto n (λ iteration. body (with own.id iteration outer))) values) same.0
