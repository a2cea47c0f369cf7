-- Numbers loaded and stored, jumps and branches.
use Rattle.std.proofs.Common.{◌≡◌, ℕ, ◌+◌, ◌%◌, ◌^◌, ◌<◌, ◌≤◌, List, [], ◌∷◌, length, Some, None, true, false, refl, ap, ◌∙◌, sym, subst, arith, inl}
use Rattle.std.specs.Prelude.{◌==◌, if◌then◌else◌, ℤ}
use Rattle.std.proofs.Math.Nat.{mod-eq_of_lt}
use Rattle.std.proofs.lemmas.Bool.Decides.{nat_tests}
use Rattle.rv_insn.specs.declared.instructions.Insn.TheVariants.{Jal, Branch, Load, Store}
use Rattle.rv_insn.specs.declared.operations.BranchOp.{BranchOp}
use Rattle.rv_insn.specs.declared.operations.LoadOp.{LoadOp}
use Rattle.rv_insn.specs.declared.operations.StoreOp.{StoreOp}
use Rattle.rv_insn.specs.declared.outcomes.Trap.TheVariants.{MisalignedTarget}
use Rattle.memory.specs.Access.{data_start, Size, Byte, Half, Word, Reads, Writes as WritesKind, bytes_in, touched, number_in, first_fault, or_else}
use Rattle.hart_core.specs.HartState.{HartState, register, advanced, given, at_pc}
use Rattle.hart_core.specs.Scalar.{plus, is_taken, load_size, loaded, store_size, kept, one_access, offset_from, jump_of, jump_fault, jumped}
use Rattle.multi_hart.specs.Run.{Within, is_in, writes}
use Rattle.multi_hart_laws.specs.Uses.{MayRead, MayWrite}
use Rattle.multi_hart_laws.specs.Alone.{World, Says, Keeps}
use Rattle.multi_hart_laws.specs.Paths.{update, At, Comes, Path, Line, Writes, Readable, Writable, stored_at}
use Rattle.multi_hart_laws.proofs.Rules.{next-by, in-front}
use Rattle.multi_hart_laws.proofs.Paths.{spot, at-given, at-to}
use Rattle.multi_hart_laws.proofs.Rows.{keeps-none}

pub load-free : (size : Size) (words n a : ℕ) → a % bytes_in size ≡ 0 → data_start ≤ a → a + bytes_in size ≤ data_start + n
    → or_else (first_fault words n Reads (one_access size a)) None ≡ None
load-free Byte words n a e l h = grind (arith, nat_tests)
load-free Half words n a e l h = grind (arith, nat_tests)
load-free Word words n a e l h = grind (arith, nat_tests)

pub store-free : (size : Size) (words n a : ℕ) → a % bytes_in size ≡ 0 → data_start ≤ a → a + bytes_in size ≤ data_start + n
    → or_else (first_fault words n WritesKind (one_access size a)) None ≡ None
store-free Byte words n a e l h = grind (arith, nat_tests)
store-free Half words n a e l h = grind (arith, nat_tests)
store-free Word words n a e l h = grind (arith, nat_tests)

module _ (w : World) (f : ℕ → ℕ) (m : List ℕ) (l : length m ≡ w.size) where
  -- ---- numbers of data

  pub load : (op : LoadOp) (r b a : ℕ) (z : ℤ) → 1 ≤ r → r < 32 → b < 32 → plus (f b) z ≡ a → Readable w (load_size op) a
      → Line w (Load op r b z ∷ []) f m (update f r (loaded op (number_in w.text m (load_size op) a))) m
  load op r b a z low high lb eb can at s h st =
      let e : plus (register h b) z ≡ a = ap (λ n. plus n z) (st.same b lb) ∙ eb in
      let v : ℕ → ℕ = λ n. loaded op (number_in w.text m (load_size op) n) in
      let o : Comes (at + 4) (update f r (v a)) m (given h r (v a)) m = (at-given at r (v a) f h (spot w.text (at + 4) [] s.1).low low high st, refl) in
      in-front w (Comes (at + 4) (update f r (v a)) m) 0 at (Load op r b z) h m l st.running st.pc s.0
      (ap (λ n. or_else (first_fault (length w.text) w.size Reads (one_access (load_size op) n)) None) e
      ∙ load-free (load_size op) (length w.text) w.size a can.aligned can.above can.below)
      (subst (λ n. Within (λ c. MayRead w.job w.hart (w.uses c)) (touched (one_access (load_size op) n))) (sym e) can.may)
      tt (keeps-none w)
      (subst (λ n. Comes (at + 4) (update f r (v a)) m (given h r (v n)) m) (sym e) o)

  store-at : (b a : ℕ) (z : ℤ) (h : HartState) (at : ℕ) → b < 32 → plus (f b) z ≡ a → At at f h → plus (register h b) z ≡ a
  store-at b a z h at lb eb st = ap (λ n. plus n z) (st.same b lb) ∙ eb

  pub store : (op : StoreOp) (b v a : ℕ) (z : ℤ) → b < 32 → v < 32 → plus (f b) z ≡ a → Writable w (store_size op) a
      → Line w (Store op b v z ∷ []) f m f (stored_at m (store_size op) a (kept op (f v)))
  store op b v a z lb lv eb can at s h st =
      let e = store-at b a z h at lb eb st in
      let ep : (h.pc + 4) % 2 ^ 32 ≡ at + 4 = ap (λ n. (n + 4) % 2 ^ 32) st.pc ∙ mod-eq_of_lt (spot w.text (at + 4) [] s.1).low in
      let here : At (at + 4) f (advanced h) = subst (λ p. At (at + 4) f (at_pc h p)) (sym ep) (at-to at (at + 4) f h st) in
      let left : stored_at m (store_size op) (plus (register h b) z) (kept op (register h v)) ≡ stored_at m (store_size op) a (kept op (f v)) =
      ap (λ n. stored_at m (store_size op) n (kept op (register h v))) e ∙ ap (λ n. stored_at m (store_size op) a (kept op n)) (st.same v lv) in
      in-front w (Comes (at + 4) f (stored_at m (store_size op) a (kept op (f v)))) 0 at (Store op b v z) h m l st.running st.pc s.0
      (ap (λ n. or_else (first_fault (length w.text) w.size WritesKind (one_access (store_size op) n)) None) e
      ∙ store-free (store_size op) (length w.text) w.size a can.there.aligned can.there.above can.there.below)
      tt
      (subst (λ n. Within (λ c. MayWrite w.job w.hart (w.uses c)) (touched (one_access (store_size op) n))) (sym e) can.there.may)
      (subst (λ n. Keeps w (touched (one_access (store_size op) n))) (sym e) can.keeps)
      (here, left)

  -- and it writes the number's bytes
  pub store-writes : (op : StoreOp) (b v a : ℕ) (z : ℤ) (at c : ℕ) → b < 32 → plus (f b) z ≡ a → Writable w (store_size op) a → Says w.text at (Store op b v z)
      → is_in c (touched (one_access (store_size op) a)) ≡ true → Writes w at 1 f m c
  store-writes op b v a z at c lb eb can s i h st =
      let e = store-at b a z h at lb eb st in
      let d = next-by w.text w.size h at (Store op b v z) st.running st.pc s
      (ap (λ n. or_else (first_fault (length w.text) w.size WritesKind (one_access (store_size op) n)) None) e
      ∙ store-free (store_size op) (length w.text) w.size a can.there.aligned can.there.above can.there.below) in
      inl (ap (λ y. is_in c (writes y h)) d ∙ ap (λ n. is_in c (touched (one_access (store_size op) n))) e ∙ i)

  -- ---- jumps

  pub jump : (at to : ℕ) (z : ℤ) → Says w.text at (Jal 0 z) → offset_from at z ≡ to → to % 4 ≡ 0 → Path w at to 1 f m f m
  jump at to z s ez even h st =
      let e : offset_from h.pc z ≡ to = ap (λ p. offset_from p z) st.pc ∙ ez in
      in-front w (Comes to f m) 0 at (Jal 0 z) h m l st.running st.pc s
      (ap (λ n. or_else (jump_fault (Some n)) None) e ∙ ap (λ n. or_else (if n == 0 then None else Some MisalignedTarget) None) even)
      tt tt (keeps-none w)
      (subst (λ p. Comes to f m (at_pc h p) m) (sym e) (at-to at to f h st, refl))

  test-is : (op : BranchOp) (at a b : ℕ) (h : HartState) → a < 32 → b < 32 → At at f h → is_taken op (register h a) (register h b) ≡ is_taken op (f a) (f b)
  test-is op at a b h la lb st = ap (λ x. is_taken op x (register h b)) (st.same a la) ∙ ap (is_taken op (f a)) (st.same b lb)

  pub taken : (op : BranchOp) (at to a b : ℕ) (z : ℤ) → a < 32 → b < 32 → is_taken op (f a) (f b) ≡ true → Says w.text at (Branch op a b z)
      → offset_from at z ≡ to → to % 4 ≡ 0 → Path w at to 1 f m f m
  taken op at to a b z la lb test s ez even h st =
      let e : jump_of (Branch op a b z) h ≡ Some to = ap (λ c. if c then Some (offset_from h.pc z) else None) (test-is op at a b h la lb st ∙ test)
      ∙ ap (λ p. Some (offset_from p z)) st.pc ∙ ap (λ n. Some n) ez in
      in-front w (Comes to f m) 0 at (Branch op a b z) h m l st.running st.pc s
      (ap (λ o. or_else (jump_fault o) None) e ∙ ap (λ n. or_else (if n == 0 then None else Some MisalignedTarget) None) even)
      tt tt (keeps-none w)
      (subst (λ o. Comes to f m (jumped h o) m) (sym e) (at-to at to f h st, refl))

  pub passed : (op : BranchOp) (at a b : ℕ) (z : ℤ) → a < 32 → b < 32 → is_taken op (f a) (f b) ≡ false → Says w.text at (Branch op a b z) → at + 4 < 2 ^ 32
      → Path w at (at + 4) 1 f m f m
  passed op at a b z la lb test s low h st =
      let e : jump_of (Branch op a b z) h ≡ None = ap (λ c. if c then Some (offset_from h.pc z) else None) (test-is op at a b h la lb st ∙ test) in
      let ep : (h.pc + 4) % 2 ^ 32 ≡ at + 4 = ap (λ n. (n + 4) % 2 ^ 32) st.pc ∙ mod-eq_of_lt low in
      in-front w (Comes (at + 4) f m) 0 at (Branch op a b z) h m l st.running st.pc s
      (ap (λ o. or_else (jump_fault o) None) e)
      tt tt (keeps-none w)
      (subst (λ o. Comes (at + 4) f m (jumped h o) m) (sym e) (subst (λ p. At (at + 4) f (at_pc h p)) (sym ep) (at-to at (at + 4) f h st), refl))
