-- Numbers that wait in a lane, and stores by way of it.
use Rattle.std.proofs.Common.{◌≡◌, ℕ, ◌+◌, ◌%◌, ◌^◌, ◌<◌, List, [], ◌∷◌, ◌++◌, length, true, refl, ap, ◌∙◌, sym, subst, arith, inl, inr}
use Rattle.std.proofs.Common.{length-append}
use Rattle.std.specs.Prelude.{◌≢◌, ◌⊎◌}
use Rattle.std.specs.List.{list_all}
use Rattle.std.proofs.lemmas.Bool.{and_parts}
use Rattle.std.proofs.lemmas.List.Folds.{list_all-append}
use Rattle.rv_insn.specs.declared.instructions.Insn.TheVariants.{Store as Save, Vector}
use Rattle.rv_insn.specs.declared.operations.StoreOp.TheVariants as save_ops
use Rattle.rv_insn.specs.declared.vector_instructions.VectorInsn.TheVariants as v
use Rattle.hart_core.specs.Scalar.{plus}
use Rattle.halide_pipeline.specs.declared.expressions.Source.TheVariants as sources
use Rattle.halide_pipeline.specs.Pixel.{reads_of}
use Rattle.loop_ir.specs.declared.statements.Store.{Store}
use Rattle.loop_ir.specs.Expressions.{value, loads}
use Rattle.loop_ir.specs.Soundness.{store_loads}
use Rattle.loop_ir.specs.Sizes.{size}
use Rattle.loop_ir.proofs.Sound.{sound_store}
use Rattle.loop_ir.proofs.Trees.{run_store}
use Rattle.multi_hart_laws.specs.Paths.{configure, update, vl_number, vtype_number, IsGroup}
use Rattle.multi_hart_laws.proofs.Configurations.{configure-at}
use Rattle.multi_hart_laws.proofs.FirstLanes.{first-read}
use Rattle.multi_hart_laws.proofs.Paths.{update-same, update-other, line-then}
use Rattle.multi_hart_laws.proofs.VectorRows.{move-vx}
use Rattle.task_code_scalar.specs.declared.layouts.BufferLayout.{BufferLayout}
use Rattle.task_code_scalar.specs.declared.layouts.Places.{Places}
use Rattle.task_code_scalar.specs.Code.{place_of, address, lower}
use Rattle.task_code_scalar.specs.Layout.{func_point, address_of}
use Rattle.task_code_scalar.specs.Words.{Emits}
use Rattle.task_code_scalar.proofs.Spelling.{emits_then}
use Rattle.task_code_scalar.proofs.Tracing.{hit-store}
use Rattle.task_code_lanes.specs.declared.groups.LaneGroup.TheVariants as groups
use Rattle.task_code_lanes.specs.Groups.{vtype_of}
use Rattle.task_code_lanes.proofs.Configured.{supported, has-lanes, configured-others}
use Rattle.task_code_lanes.proofs.Rows as rows
use Rattle.task_code_registers.specs.declared.scopes.Held.{Held}
use Rattle.task_code_registers.specs.Emitting.{MakesOf}
use Rattle.task_code_registers.specs.Registers.{first_value, address_register, IsTarget}
use Rattle.task_code_registers.specs.Scopes.{AreHolders, IsKept, are_registers}
use Rattle.task_code_registers.proofs.Going.{no_hits, Does, went-hits, went-is}
use Rattle.task_code_registers.proofs.Knowing.{kept-apart, kept-low, knows-still, knows-zero, working-free}
use Rattle.task_code_registers.proofs.Making.{short-then}
use Rattle.task_code_values.specs.declared.points.PointIndex.TheVariants as indexes
use Rattle.task_code_values.specs.Making.{IsStack, IsBelow}
use Rattle.task_code_values.specs.Operands.{StandsIn}
use Rattle.task_code_values.specs.Parking.{parking, OpensParking, Parks, Unparks, MakesPoint, PreparesStore, ReachesStore, point_address}
use Rattle.task_code_values.specs.Scattering.{StandsBeside, ReachesPoint}
use Rattle.task_code_values.specs.Spilling.{second_value}
use Rattle.task_code_values.specs.Storing.{MakesValue, MakesStore, store_words}
use Rattle.task_code_values.proofs.Pointing.{at-offset, own-word}
use Rattle.task_code_values.proofs.Saving.{saved, is-single, equal-parts, does-then, did-went}
use Rattle.task_code_values.proofs.Standing.{kept-below}

-- ---- one number

is-group : IsGroup 1 1
is-group = record { above_mask = omega arith; fits = omega arith; placed = refl }

pub opens : (c0 c1 : List ℕ) → Emits c0 c1 (Vector (v.Vsetivli 0 1 (vtype_of groups.One)) ∷ []) → OpensParking c0 c1
opens c0 c1 z = record {
  insns = Vector (v.Vsetivli 0 1 (vtype_of groups.One)) ∷ [];
  emits = z;
  short = omega arith;
  does = λ w m f l. record {
    after = configure f 1 (vtype_of groups.One);
    line = configure-at w f m l 1 (vtype_of groups.One) (supported groups.One);
    has = has-lanes groups.One f 1 (omega arith);
    keeps = λ q low. configured-others f 1 (vtype_of groups.One) q low;
    lanes = λ q high. update-other (update f 32 1) 33 (vtype_of groups.One) q (λ e. omega (arith, e, high))
        ∙ update-other f 32 1 q (λ e. omega (arith, e, high));
  };
}

pub parks : (s : ℕ) (c0 c1 : List ℕ) → s < 32 → Emits c0 c1 (Vector (v.MoveVx 1 s) ∷ []) → Parks c0 c1 s
parks s c0 c1 low z = record {
  insns = Vector (v.MoveVx 1 s) ∷ [];
  emits = z;
  short = omega arith;
  does = λ w m f l has.
      let t : rows.Writes w m l groups.One 1 (Vector (v.MoveVx 1 s) ∷ []) f 1 (λ i. f s % 2 ^ 32) =
      rows.writes w m l groups.One 1 (λ i. f s % 2 ^ 32) (λ i. f s % 2 ^ 32) has (move-vx w f m l 1 has.configured 1 s is-group low) (λ i b. refl) in
      record {
        after = t.after;
        line = t.line;
        has = rows.lanes-kept w m l groups.One 1 f t.after (t.below vl_number (omega arith)) (t.below vtype_number (omega arith)) has;
        there = t.value 0 (omega arith);
        keeps = λ q h. t.below q (omega (arith, h));
        lanes = λ q h. t.above q (omega (arith, h));
      };
}

pub unparks : (r : ℕ) (c0 c1 : List ℕ) → IsTarget r → Emits c0 c1 (Vector (v.MoveToScalar r 1) ∷ []) → Unparks c0 c1 r
unparks r c0 c1 target z = record {
  insns = Vector (v.MoveToScalar r 1) ∷ [];
  emits = z;
  short = omega arith;
  does = λ w m f l has. record {
    after = update f r (f parking);
    line = first-read w f m l 1 has.configured r 1 target.0 target.1 (omega arith) (omega arith);
    value = update-same f r (f parking);
    keeps = λ q n. update-other f r (f parking) q n;
  };
}

-- ---- what stays

-- a lane stays while a value is made
above : (q : ℕ) → 31 < q → IsBelow first_value q
above q high = (inr (omega (arith, high)), inr high)

apart-from : (scope : List Held) (r s : ℕ) → AreHolders scope → (r ≡ address_register) ⊎ (IsStack r × (first_value < r))
    → (s ≡ first_value) ⊎ IsKept scope s → s ≢ r
apart-from scope r s holders is (inl e) g = omega (arith, is, e, g)
apart-from scope r s holders (inl is) (inr h) g = working-free scope r holders (inl (omega (arith, is), omega (arith, is))) s h g
apart-from scope r s holders (inr is) (inr h) g = working-free scope r holders (inr is.0) s h g

-- the registers of the point's indexes
pub column-stands : (scope : List Held) → StandsIn scope second_value (indexes.Register second_value)
column-stands scope = ((omega arith, omega arith), ((omega arith, ((λ e. omega (arith, e)), (λ e. omega (arith, e)))), inl refl))

module _ (places : Places) (scope : List Held) (all : are_registers scope ≡ true) where
  pub row-stands : (t : ℕ) (store : Store) (c0 c1 : List ℕ) → MakesValue c0 c1 places scope 0 t store.y → StandsBeside scope second_value (indexes.Register t)
  row-stands t store c0 c1 y = (y.source, by y.which)
    where
      by : (t ≡ first_value) ⊎ IsKept scope t → (t ≢ second_value) ⊎ IsKept scope t
      by (inl e) = inl (λ g. omega (arith, e, g))
      by (inr h) = inr h

  -- ---- the point of a store

  module _ (store : Store) (layout : BufferLayout) (s t offset : ℕ) (c0 c1 c2 c3 c4 c5 c6 : List ℕ) where
    pub point-made : layout ≡ place_of places (sources.Func store.func) → OpensParking c0 c1 → MakesValue c1 c2 places scope 0 s store.x → Parks c2 c3 s
        → MakesValue c3 c4 places scope 0 t store.y → Unparks c4 c5 second_value
        → ReachesPoint c5 c6 scope layout (indexes.Register second_value) (indexes.Register t) second_value offset
        → MakesPoint c0 c6 places scope offset store
    point-made ep o x p y u z = record {
      insns = o.insns ++ (x.insns ++ (p.insns ++ (y.insns ++ (u.insns ++ z.insns))));
      emits = emits_then o.emits (emits_then x.emits (emits_then p.emits (emits_then y.emits (emits_then u.emits z.emits))));
      short =
          let five = short-then u.insns z.insns 1 12 13 u.short z.short (omega arith) in
          let four = short-then y.insns (u.insns ++ z.insns) (size store.y) 13 (size store.y + 13) y.short five (omega arith) in
          let three = short-then p.insns (y.insns ++ (u.insns ++ z.insns)) 1 (size store.y + 13) (size store.y + 14) p.short four (omega arith) in
          let two = short-then x.insns (p.insns ++ (y.insns ++ (u.insns ++ z.insns))) (size store.x) (size store.y + 14)
          (size store.x + size store.y + 14) x.short three (omega arith) in
          short-then o.insns (x.insns ++ (p.insns ++ (y.insns ++ (u.insns ++ z.insns)))) 1 (size store.x + size store.y + 14)
          (size store.x + size store.y + 15) o.short two (omega arith);
      fits = z.fits;
      small = z.small;
      does = λ own good at-places values holders f memory funcs holds knows may-x may-y low.
          let w = own.world in
          let reads = reads_of own.inputs funcs in
          let xv = value reads values store.x in
          let yv = value reads values store.y in
          let a = o.does w memory f holds.size in
          let sa = λ (n : ℕ) (h : IsKept scope n). a.keeps n (kept-low scope n all h) in
          let ka = knows-still w.hart scope values f a.after sa knows in
          let b = x.does own good at-places values holders a.after memory funcs holds ka may-x in
          let sb = λ (n : ℕ) (h : IsKept scope n). b.keeps n (kept-below scope n first_value (omega arith) holders h) in
          let kb = knows-still w.hart scope values a.after b.after sb ka in
          let has-b = rows.lanes-kept w b.left b.holds.size groups.One 1 a.after b.after (b.keeps vl_number (above vl_number (omega arith)))
          (b.keeps vtype_number (above vtype_number (omega arith))) a.has in
          let c = p.does w b.left b.after b.holds.size has-b in
          let sc = λ (n : ℕ) (h : IsKept scope n). c.keeps n (kept-low scope n all h) in
          let kc = knows-still w.hart scope values b.after c.after sc kb in
          let d = y.does own good at-places values holders c.after b.left funcs b.holds kc may-y in
          let sd = λ (n : ℕ) (h : IsKept scope n). d.keeps n (kept-below scope n first_value (omega arith) holders h) in
          let kd = knows-still w.hart scope values c.after d.after sd kc in
          let has-d = rows.lanes-kept w d.left d.holds.size groups.One 1 c.after d.after (d.keeps vl_number (above vl_number (omega arith)))
          (d.keeps vtype_number (above vtype_number (omega arith))) c.has in
          let g = u.does w d.left d.after d.holds.size has-d in
          let sg = λ (n : ℕ) (h : IsKept scope n). g.keeps n (working-free scope second_value holders (inr (omega arith, omega arith)) n h) in
          let kg = knows-still w.hart scope values d.after g.after sg kd in
          let is-x : g.after second_value ≡ xv =
          g.value ∙ d.keeps parking (above parking (omega arith)) ∙ c.there ∙ ap (λ n. n % 2 ^ 32) b.value ∙ own-word xv b.small in
          let is-y : g.after t ≡ yv =
          g.keeps t (apart-from scope second_value t holders (inr ((omega arith, omega arith), omega arith)) y.which) ∙ d.value in
          let here : point_address own funcs values store ≡ address layout w.hart xv yv =
          ap (λ ps. address (place_of ps (sources.Func store.func)) w.hart xv yv) at-places ∙ ap (λ pl. address pl w.hart xv yv) (sym ep) in
          let e = z.does w d.left values g.after xv yv d.holds.size holders kg is-x is-y (subst (λ n. n < 2 ^ 32) here low) in
          let se = λ (n : ℕ) (h : IsKept scope n). e.keeps n (kept-below scope n second_value (omega arith) holders h) in
          record {
            after = e.after;
            left = d.left;
            line = line-then w o.insns (x.insns ++ (p.insns ++ (y.insns ++ (u.insns ++ z.insns)))) f a.after e.after memory memory d.left a.line
                (line-then w x.insns (p.insns ++ (y.insns ++ (u.insns ++ z.insns))) a.after b.after e.after memory b.left d.left b.line
                (line-then w p.insns (y.insns ++ (u.insns ++ z.insns)) b.after c.after e.after b.left b.left d.left c.line
                (line-then w y.insns (u.insns ++ z.insns) c.after d.after e.after b.left d.left d.left d.line
                (line-then w u.insns z.insns d.after g.after e.after d.left d.left d.left g.line e.line))));
            has = rows.lanes-kept w d.left d.holds.size groups.One 1 d.after e.after
                (e.keeps vl_number (inr (omega arith), inr (omega arith)) ∙ g.keeps vl_number (λ q. omega (arith, q)))
                (e.keeps vtype_number (inr (omega arith), inr (omega arith)) ∙ g.keeps vtype_number (λ q. omega (arith, q))) has-d;
            value = e.value ∙ sym here;
            keeps = λ n h. se n h ∙ sg n h ∙ sd n h ∙ sc n h ∙ sb n h ∙ sa n h;
            lanes = λ q h. e.keeps q (inr (omega (arith, h)), inr (omega (arith, h))) ∙ g.keeps q (λ is. omega (arith, is, h))
                ∙ d.keeps q (above q (omega (arith, h))) ∙ c.lanes q h ∙ b.keeps q (above q (omega (arith, h))) ∙ a.lanes q h;
            holds = d.holds;
            before = λ byte out. d.before byte out ∙ b.before byte out;
            are_bytes = λ are. d.are_bytes (b.are_bytes are);
          };
    }

  -- ---- the pixel beside it

  module _ (store : Store) (s offset : ℕ) where
    pub store-reached : (c0 c1 c2 c3 c4 : List ℕ) → MakesPoint c0 c1 places scope offset store → Parks c1 c2 second_value
        → MakesValue c2 c3 places scope 0 s store.value → Unparks c3 c4 address_register → ReachesStore c0 c4 places scope s offset store
    store-reached c0 c1 c2 c3 c4 x p y u = record {
      insns = x.insns ++ (p.insns ++ (y.insns ++ u.insns));
      emits = emits_then x.emits (emits_then p.emits (emits_then y.emits u.emits));
      short =
          let two = short-then y.insns u.insns (size store.value) 1 (size store.value + 1) y.short u.short (omega arith) in
          let three = short-then p.insns (y.insns ++ u.insns) 1 (size store.value + 1) (size store.value + 2) p.short two (omega arith) in
          short-then x.insns (p.insns ++ (y.insns ++ u.insns)) (size store.x + size store.y + 15) (size store.value + 2)
          (size store.x + size store.y + size store.value + 17) x.short three (omega arith);
      fits = x.fits;
      small = x.small;
      source = y.source;
      which = y.which;
      does = λ own good at-places values sound holders f memory funcs holds knows.
          let w = own.world in
          let reads = reads_of own.inputs funcs in
          let xv = value reads values store.x in
          let yv = value reads values store.y in
          let k = and_parts (own.written store.func xv yv) (list_all own.loaded (store_loads reads values store))
          (sym (sound_store reads own.written own.loaded store values) ∙ sound funcs holds.are_words) in
          let l = and_parts (list_all own.loaded (loads reads values store.x)) _
          (sym (list_all-append own.loaded (loads reads values store.x) (loads reads values store.y ++ loads reads values store.value)) ∙ k.1) in
          let q = and_parts (list_all own.loaded (loads reads values store.y)) (list_all own.loaded (loads reads values store.value))
          (sym (list_all-append own.loaded (loads reads values store.y) (loads reads values store.value)) ∙ l.1) in
          let may-store = good.laid.stores store.func xv yv k.0 in
          let a = x.does own good at-places values holders f memory funcs holds knows l.0 q.0 may-store.low in
          let ka = knows-still w.hart scope values f a.after a.keeps knows in
          let b = p.does w a.left a.after a.holds.size a.has in
          let sb = λ (n : ℕ) (h : IsKept scope n). b.keeps n (kept-low scope n all h) in
          let kb = knows-still w.hart scope values a.after b.after sb ka in
          let c = y.does own good at-places values holders b.after a.left funcs a.holds kb q.1 in
          let sc = λ (n : ℕ) (h : IsKept scope n). c.keeps n (kept-below scope n first_value (omega arith) holders h) in
          let has-c = rows.lanes-kept w c.left c.holds.size groups.One 1 b.after c.after (c.keeps vl_number (above vl_number (omega arith)))
          (c.keeps vtype_number (above vtype_number (omega arith))) b.has in
          let d = u.does w c.left c.after c.holds.size has-c in
          let sd = λ (n : ℕ) (h : IsKept scope n). d.keeps n (working-free scope address_register holders (inl (omega arith, omega arith)) n h) in
          let there : d.after address_register ≡ a.after second_value % 2 ^ 32 = d.value ∙ c.keeps parking (above parking (omega arith)) ∙ b.there in
          record {
            after = d.after;
            left = c.left;
            line = line-then w x.insns (p.insns ++ (y.insns ++ u.insns)) f a.after d.after memory a.left c.left a.line
                (line-then w p.insns (y.insns ++ u.insns) a.after b.after d.after a.left a.left c.left b.line
                (line-then w y.insns u.insns b.after c.after d.after a.left c.left c.left c.line d.line));
            pixel = d.keeps s (apart-from scope address_register s holders (inl refl) y.which) ∙ c.value;
            small = c.small;
            word = subst (λ n. n < 2 ^ 32) (sym there) (word-small (a.after second_value));
            address = ap (λ n. (n + offset) % 2 ^ 32) there ∙ rested (a.after second_value) offset ∙ a.value;
            keeps = λ n h. sd n h ∙ sc n h ∙ sb n h ∙ a.keeps n h;
            lanes = λ n h. d.keeps n (λ is. omega (arith, is, h)) ∙ c.keeps n (above n (omega (arith, h))) ∙ b.lanes n h ∙ a.lanes n h;
            holds = c.holds;
            before = λ byte out. c.before byte out ∙ a.before byte out;
            are_bytes = λ are. c.are_bytes (a.are_bytes are);
          };
    }
      where
        rested : (n k : ℕ) → (n % 2 ^ 32 + k) % 2 ^ 32 ≡ (n + k) % 2 ^ 32
        rested n k = omega arith

        word-small : (n : ℕ) → n % 2 ^ 32 < 2 ^ 32
        word-small n = omega arith

    -- ---- the store

    module _ (c0 c1 c2 : List ℕ) (x : ReachesStore c0 c1 places scope s offset store) where
      pub parked-made : Emits c1 c2 (Save save_ops.Sw address_register s (lower offset) ∷ []) → MakesStore c0 c2 places scope store
      parked-made last = record {
        insns = x.insns ++ (Save save_ops.Sw address_register s (lower offset) ∷ []);
        emits = emits_then x.emits last;
        short = short-then x.insns (Save save_ops.Sw address_register s (lower offset) ∷ []) (size store.x + size store.y + size store.value + 17) 1
            (store_words store) x.short (omega arith) (omega arith);
        does = λ own good at-places values sound sure holders f memory funcs holds knows.
            let reads = reads_of own.inputs funcs in
            let xv = value reads values store.x in
            let yv = value reads values store.y in
            let k = and_parts (own.written store.func xv yv) (list_all own.loaded (store_loads reads values store))
            (sym (sound_store reads own.written own.loaded store values) ∙ sound funcs holds.are_words) in
            let a = x.does own good at-places values sound holders f memory funcs holds knows in
            let at-a : plus (a.after address_register) (lower offset) ≡ address_of own.world own.places (func_point store.func xv yv) =
            at-offset (a.after address_register) offset _ x.fits x.small a.address in
            let one : Does own x.insns (length x.insns) f memory (IsKept scope) funcs no_hits = record {
              after = a.after;
              left = a.left;
              path = λ at st. a.line at st;
              keeps = a.keeps;
              holds = a.holds;
              elsewhere = λ byte other. a.before byte other.frame;
              are_bytes = a.are_bytes;
              writes = λ func i j byte at hit of st. absurd hit;
            } in
            let two = saved own good values (IsKept scope) store address_register s (lower offset) a.after a.left funcs (omega arith) x.source.0 a.holds k.0
            (is-single own good values store sure funcs holds.are_words) a.small at-a a.pixel in
            did-went (went-hits own
            (λ func i j h. equal-parts store.func func xv i yv j (sym (hit-store own.points own.inputs func i j store values funcs) ∙ h))
            (went-is own (sym (length-append x.insns (Save save_ops.Sw address_register s (lower offset) ∷ [])))
            (sym (run_store own.points own.inputs store values funcs)) (does-then own good values one two)));
      }

      -- ---- or the address alone

      pub store-prepared : MakesOf c1 c2 1 address_register address_register (λ v. (v + offset) % 2 ^ 32) → PreparesStore c0 c2 places scope s store
      store-prepared y = record {
        insns = x.insns ++ y.insns;
        emits = emits_then x.emits y.emits;
        short = short-then x.insns y.insns (size store.x + size store.y + size store.value + 17) 1 (store_words store) x.short y.short (omega arith);
        source = x.source;
        which = x.which;
        does = λ own good at-places values sound holders f memory funcs holds knows.
            let w = own.world in
            let a = x.does own good at-places values sound holders f memory funcs holds knows in
            let ka = knows-still w.hart scope values f a.after a.keeps knows in
            let b = y.does w a.left a.after a.holds.size (knows-zero w.hart scope values a.after ka) a.word in
            let sb = λ (n : ℕ) (h : IsKept scope n). b.others n (working-free scope address_register holders (inl (omega arith, omega arith)) n h)
            (kept-apart scope n holders h).0 (kept-apart scope n holders h).1 in
            record {
              after = b.after;
              left = a.left;
              line = line-then w x.insns y.insns f a.after b.after memory a.left a.left a.line b.line;
              pixel = b.others s (apart-from scope address_register s holders (inl refl) x.which) x.source.1.0 x.source.1.1 ∙ a.pixel;
              small = a.small;
              address = b.value ∙ a.address;
              keeps = λ n h. sb n h ∙ a.keeps n h;
              lanes = λ n h. b.others n (λ e. omega (arith, e, h)) (λ e. omega (arith, e, h)) (λ e. omega (arith, e, h)) ∙ a.lanes n h;
              holds = a.holds;
              before = a.before;
              are_bytes = a.are_bytes;
            };
      }
