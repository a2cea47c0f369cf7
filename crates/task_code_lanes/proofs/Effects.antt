-- What lanes leave that store at once.
use Rattle.std.proofs.Common.{◌≡◌, ℕ, zero, suc, ◌+◌, ◌<◌, ◌≤◌, ap, ◌∙◌, refl, arith}
use Rattle.std.specs.Prelude.{Option, Some, None}
use Rattle.halide_pipeline.specs.Pixel.{Planes}
use Rattle.loop_ir.specs.AtOnce.{Effect, put_effect}
use Rattle.loop_ir.specs.Buffers.{Points}
use Rattle.loop_ir.specs.Running.{iterated}
use Rattle.task_code_scalar.proofs.Tracing.{Hits}

-- a lane stores at the point
pub record HitBy (own : ℕ → Option Effect) (n func x y : ℕ) : Type 0 where
  pub lane : ℕ
  pub below : lane < n
  pub stored : Effect
  pub is : own lane ≡ Some stored
  pub func_is : stored.func ≡ func
  pub x_is : stored.x ≡ x
  pub y_is : stored.y ≡ y

abbrev pub effect_hits : (ℕ → Option Effect) → ℕ → Hits
effect_hits own n func x y = HitBy own n func x y

module _ (points : Points) where
  abbrev pub laid : (ℕ → Option Effect) → ℕ → Planes → Planes
  laid own n funcs = iterated n (λ lane. put_effect points (own lane)) funcs

  pub laid-same : (a b : ℕ → Option Effect) (n : ℕ) → ((k : ℕ) → k < n → a k ≡ b k) → (funcs : Planes) → laid a n funcs ≡ laid b n funcs
  unfolding iterated
  laid-same a b zero same funcs = refl
  laid-same a b (suc n) same funcs =
      ap (λ e. put_effect points e (laid a n funcs)) (same n (omega arith))
      ∙ ap (put_effect points (b n)) (laid-same a b n (λ k l. same k (omega (arith, l))) funcs)

  -- lanes that store nothing leave all as it was
  pub laid-cut : (own : ℕ → Option Effect) (k m : ℕ) → ((j : ℕ) → m ≤ j → j < k + m → own j ≡ None) → (funcs : Planes)
      → laid own (k + m) funcs ≡ laid own m funcs
  unfolding iterated
  laid-cut own zero m none funcs = let e : 0 + m ≡ m = omega arith in ap (λ (k : ℕ). laid own k funcs) e
  laid-cut own (suc k) m none funcs =
      let e : suc k + m ≡ suc (k + m) = omega arith in
      ap (λ (i : ℕ). laid own i funcs) e ∙ ap (λ e. put_effect points e (laid own (k + m) funcs)) (none (k + m) (omega arith) (omega arith))
      ∙ laid-cut own k m (λ j low high. none j low (omega (arith, high))) funcs
