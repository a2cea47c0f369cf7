-- Parts of a statement's code, one after the other.
use Rattle.std.proofs.Common.{◌≡◌, ℕ, ◌+◌, List, refl, ◌∙◌, subst, inl, inr}
use Rattle.std.specs.Prelude.{◌⊎◌}
use Rattle.rv_insn.specs.declared.instructions.Insn.{Insn}
use Rattle.memory.specs.Access.{byte_at, AreBytes}
use Rattle.halide_pipeline.specs.Pixel.{Planes}
use Rattle.multi_hart_laws.specs.Paths.{Stand, end, Path, Writes}
use Rattle.multi_hart_laws.proofs.Paths.{path-then, writes-first, writes-later}
use Rattle.task_code_scalar.specs.Layout.{IsOf, IsElsewhere}
use Rattle.task_code_scalar.specs.Doing.{Setting, HoldsFuncs}
pub use Rattle.task_code_scalar.proofs.Tracing.{Hits}

abbrev pub no_hits : Hits
no_hits func x y = ⊥

abbrev pub either : Hits → Hits → Hits
either first second func x y = first func x y ⊎ second func x y

module _ (setting : Setting) where
  -- Where code is, the hart goes from one of its addresses to another, and memory then holds these buffers. Some
  -- registers stay, and the points that are hit are written on the way.
  pub record Went (whole : List Insn) (from to : ℕ → ℕ) (n : ℕ) (f : ℕ → ℕ) (memory : List ℕ) (keeps_it : ℕ → Type 0) (funcs : Planes)
      (hits : Hits) : Type 0 where
    pub after : ℕ → ℕ
    pub left : List ℕ
    pub path : (at : ℕ) → Stand setting.world.text at whole → Path setting.world (from at) (to at) n f memory after left
    pub keeps : (q : ℕ) → keeps_it q → after q ≡ f q
    pub holds : HoldsFuncs setting left funcs
    pub elsewhere : (byte : ℕ) → IsElsewhere setting.world setting.places setting.written byte → byte_at setting.world.text left byte ≡ byte_at setting.world.text memory byte
    pub are_bytes : AreBytes memory → AreBytes left
    pub writes : (func x y byte at : ℕ) → hits func x y → IsOf setting.world setting.places func x y byte → Stand setting.world.text at whole
        → Writes setting.world (from at) n f memory byte

  -- from the first instruction to after the last
  abbrev pub Does : List Insn → ℕ → (ℕ → ℕ) → List ℕ → (ℕ → Type 0) → Planes → Hits → Type 0
  Does code n f memory keeps_it funcs hits = Went code (λ at. at) (λ at. end at code) n f memory keeps_it funcs hits

  -- and something is so of all that the hart holds then
  pub record Marked (mark_is : (ℕ → ℕ) → Type 0) (whole : List Insn) (from to : ℕ → ℕ) (n : ℕ) (f : ℕ → ℕ) (memory : List ℕ) (keeps_it : ℕ → Type 0)
      (funcs : Planes) (hits : Hits) : Type 0 where
    pub went : Went whole from to n f memory keeps_it funcs hits
    pub mark : mark_is went.after

  module _ {whole : List Insn} {f : ℕ → ℕ} {memory : List ℕ} {keeps_it : ℕ → Type 0} where
    abbrev pub went-then : {from mid to : ℕ → ℕ} {n k : ℕ} {middle funcs : Planes} {first second : Hits}
        → (a : Went whole from mid n f memory keeps_it middle first)
        → Went whole mid to k a.after a.left keeps_it funcs second → Went whole from to (n + k) f memory keeps_it funcs (either first second)
    went-then {from} {mid} {to} {n} {k} a b = record {
      after = b.after;
      left = b.left;
      path = λ at s. path-then setting.world (from at) (mid at) (to at) n k f a.after b.after memory a.left b.left (a.path at s) (b.path at s);
      keeps = λ q kept. b.keeps q kept ∙ a.keeps q kept;
      holds = b.holds;
      elsewhere = λ byte other. b.elsewhere byte other ∙ a.elsewhere byte other;
      are_bytes = λ are. b.are_bytes (a.are_bytes are);
      writes = λ func x y byte at hit is s. elim hit [
        | inl h ↦ writes-first setting.world (from at) n k f memory byte (a.writes func x y byte at h is s)
        | inr h ↦ writes-later setting.world (from at) (mid at) n k f a.after memory a.left byte (a.path at s) (b.writes func x y byte at h is s)
      ];
    }

    -- the same of fewer points
    abbrev pub went-hits : {from to : ℕ → ℕ} {n : ℕ} {funcs : Planes} {hits fewer : Hits} → ((func x y : ℕ) → fewer func x y → hits func x y)
        → Went whole from to n f memory keeps_it funcs hits → Went whole from to n f memory keeps_it funcs fewer
    went-hits less a = record {
      after = a.after;
      left = a.left;
      path = a.path;
      keeps = a.keeps;
      holds = a.holds;
      elsewhere = a.elsewhere;
      are_bytes = a.are_bytes;
      writes = λ func x y byte at hit is s. a.writes func x y byte at (less func x y hit) is s;
    }

    -- of as many turns, and of other buffers that are the same
    abbrev pub went-is : {from to : ℕ → ℕ} {n k : ℕ} {funcs other : Planes} {hits : Hits} → n ≡ k → funcs ≡ other
        → Went whole from to n f memory keeps_it funcs hits → Went whole from to k f memory keeps_it other hits
    went-is {from} {to} {n} {k} {funcs} {other} {hits} e g a = record {
      after = a.after;
      left = a.left;
      path = λ at s. subst (λ i. Path setting.world (from at) (to at) i f memory a.after a.left) e (a.path at s);
      keeps = a.keeps;
      holds = subst (λ p. HoldsFuncs setting a.left p) g a.holds;
      elsewhere = a.elsewhere;
      are_bytes = a.are_bytes;
      writes = λ func x y byte at hit is s. subst (λ i. Writes setting.world (from at) i f memory byte) e (a.writes func x y byte at hit is s);
    }

    -- a part of the code that is
    abbrev pub within : {is : List Insn} {n : ℕ} {funcs : Planes} {hits : Hits} → (from to : ℕ → ℕ)
        → ((at : ℕ) → Stand setting.world.text at whole → Stand setting.world.text (from at) is)
        → ((at : ℕ) → end (from at) is ≡ to at) → Does is n f memory keeps_it funcs hits → Went whole from to n f memory keeps_it funcs hits
    within {is} {n} {funcs} {hits} from to go ends a = record {
      after = a.after;
      left = a.left;
      path = λ at s. subst (λ p. Path setting.world (from at) p n f memory a.after a.left) (ends at) (a.path (from at) (go at s));
      keeps = a.keeps;
      holds = a.holds;
      elsewhere = a.elsewhere;
      are_bytes = a.are_bytes;
      writes = λ func x y byte at hit is-of s. a.writes func x y byte (from at) hit is-of (go at s);
    }

    -- registers alone change
    abbrev pub still : {funcs : Planes} (from to : ℕ → ℕ) (n : ℕ) (after : ℕ → ℕ) → HoldsFuncs setting memory funcs → ((q : ℕ) → keeps_it q → after q ≡ f q)
        → ((at : ℕ) → Stand setting.world.text at whole → Path setting.world (from at) (to at) n f memory after memory)
        → Went whole from to n f memory keeps_it funcs no_hits
    still from to n after holds keeps path = record {
      after = after;
      left = memory;
      path = path;
      keeps = keeps;
      holds = holds;
      elsewhere = λ byte other. refl;
      are_bytes = λ are. are;
      writes = λ func x y byte at hit is s. absurd hit;
    }
