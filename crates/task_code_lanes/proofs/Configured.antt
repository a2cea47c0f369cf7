-- Groups of vector registers, as instructions configure them.
use Rattle.std.proofs.Common.{◌≡◌, ℕ, ◌*◌, ◌<◌, ◌≤◌, true, refl, ◌∙◌, subst, arith}
use Rattle.vector_unit.specs.Vector.{is_supported, width_of, group_of, most_elements}
use Rattle.multi_hart_laws.specs.Paths.{configure, LanesConfigured, update}
use Rattle.multi_hart_laws.proofs.Paths.{update-same, update-other}
use Rattle.multi_hart_laws.proofs.Configurations.{configured-lanes}
use Rattle.task_code_lanes.specs.declared.groups.LaneGroup.{LaneGroup}
use Rattle.task_code_lanes.specs.declared.groups.LaneGroup.TheVariants as groups
use Rattle.task_code_lanes.specs.Groups.{registers, vtype_of}
use Rattle.task_code_lanes.specs.Leaving.{HasLanes}

-- ---- groups as they are configured

pub supported : (group : LaneGroup) → is_supported (vtype_of group) ≡ true
supported groups.One = refl
supported groups.Two = refl
supported groups.Four = refl

wide : (group : LaneGroup) → width_of (vtype_of group) ≡ 32
wide groups.One = refl
wide groups.Two = refl
wide groups.Four = refl

grouped : (group : LaneGroup) → group_of (vtype_of group) ≡ registers group
grouped groups.One = refl
grouped groups.Two = refl
grouped groups.Four = refl

pub most : (group : LaneGroup) → most_elements (vtype_of group) ≡ 4 * registers group
most groups.One = refl
most groups.Two = refl
most groups.Four = refl

pub few-lanes : (group : LaneGroup) → 4 * registers group ≤ 16
few-lanes groups.One = omega arith
few-lanes groups.Two = omega arith
few-lanes groups.Four = omega arith

pub has-lanes : (group : LaneGroup) (f : ℕ → ℕ) (n : ℕ) → n ≤ 4 * registers group → HasLanes group n (configure f n (vtype_of group))
has-lanes group f n few =
    let e = most group in
    record {
      configured = subst (LanesConfigured (configure f n (vtype_of group))) (grouped group) (configured-lanes f n (vtype_of group) (supported group)
          (wide group) (omega (arith, few, e)));
      count = update-other (update f 32 n) 33 (vtype_of group) 32 (λ q. omega (arith, q)) ∙ update-same f 32 n;
    }

pub configured-others : (f : ℕ → ℕ) (n vtype q : ℕ) → q < 32 → configure f n vtype q ≡ f q
configured-others f n vtype q low = update-other (update f 32 n) 33 vtype q (λ e. omega (arith, e, low)) ∙ update-other f 32 n q (λ e. omega (arith, e, low))
