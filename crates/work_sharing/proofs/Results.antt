-- No hart traps, and there is one result.
use Rattle.std.proofs.Common.{◌≡◌, ℕ, zero, suc, List, [], ◌∷◌, Some, Bool, true, false, refl, ap, ◌∙◌, sym, subst, inl, inr}
use Rattle.std.specs.Prelude.{◌&&◌, slice_get}
use Rattle.memory.specs.Access.{byte_at}
use Rattle.hart_core.specs.declared.harts.Status.{Status}
use Rattle.hart_core.specs.declared.harts.Status.TheVariants.{Running, Finished as Done, Trapped as Stopped}
use Rattle.hart_core.specs.HartState.{HartState}
use Rattle.multi_hart.specs.Run.{State, run}
use Rattle.work_sharing.specs.Programs.{start}
use Rattle.work_sharing.proofs.Roles.{prior}
use Rattle.std.specs.List.{list_all}
use Rattle.hart_core.specs.HartState.{has_finished}
use Rattle.work_sharing.specs.Promises.{NeverTraps, OneResult}
use Rattle.work_sharing.specs.Turns.{NoTrap}
use Rattle.work_sharing.proofs.Ends.{Sound, sound, at-end}
use Rattle.work_sharing.proofs.Start.{always}

no-trap : (s : State) → Sound s → NoTrap s
no-trap s f k h trap e x = elim (f k h e) [
  | inl y ↦ let q : Running ≡ Stopped trap = sym y ∙ x in cc q
  | inr y ↦ let q : Done ≡ Stopped trap = sym y ∙ x in cc q
]

pub never-traps : NeverTraps
never-traps ph last entry memory turns g o =
    let i = always ph last entry memory turns g o in
    no-trap (run (start (ph 0) entry memory) turns) (sound (prior ph i.at) (ph i.at) (run (start (ph 0) entry memory) turns) i.phase)

is-done : (st : Status) → has_finished st ≡ true → st ≡ Done
is-done Running e = absurd (cc e)
is-done Done e = refl
is-done (Stopped t) e = absurd (cc e)

over-list : (hs : List HartState) → list_all (λ h. has_finished h.status) hs ≡ true → (k : ℕ) (h : HartState) → slice_get hs k ≡ Some h → h.status ≡ Done
over-list [] e k h x = absurd (cc x)
over-list (y ∷ hs) e zero h x = let q : y ≡ h = cc x in subst (λ z. z.status ≡ Done) q
    (is-done y.status (first (has_finished y.status) (list_all (λ h. has_finished h.status) hs) e))
  where
    first : (a b : Bool) → (a && b) ≡ true → a ≡ true
    first true b e = refl
    first false b e = e
over-list (y ∷ hs) e (suc k) h x = over-list hs (second (has_finished y.status) (list_all (λ h. has_finished h.status) hs) e) k h x
  where
    second : (a b : Bool) → (a && b) ≡ true → b ≡ true
    second true b e = e
    second false b e = absurd (cc e)

pub list-over : (hs : List HartState) → ((k : ℕ) (h : HartState) → slice_get hs k ≡ Some h → h.status ≡ Done) → list_all (λ h. has_finished h.status) hs ≡ true
list-over [] f = refl
list-over (y ∷ hs) f = ap (λ st. has_finished st && list_all (λ h. has_finished h.status) hs) (f 0 y refl) ∙ list-over hs (λ k h e. f (suc k) h e)

pub one-result : OneResult
one-result ph last entry memory turns g o e =
    let s = run (start (ph 0) entry memory) turns in
    let i = always ph last entry memory turns g o in
    let x = at-end ph last g s i (over-list s.harts e) in
    (λ a t l y. ap (λ z. byte_at z s.memory a) x.2 ∙ x.0 t l a y, λ a y. ap (λ z. byte_at z s.memory a) x.2 ∙ x.1 a y)
