-- What an algorithm and a schedule mean when they are mapped: where the data and the code of the images of a program of them lie, or the first
-- refusal. This project's own.
use Rattle.std.specs.Prelude.{◌≡◌, ℕ, List, Some, None}
use Rattle.std.specs.declared.alloc.Global.{Global}
use Rattle.hrv_compiler.specs.declared.faults.CompileFault.{CompileFault}
use Rattle.hrv_compiler.specs.Compiled.{CompiledContents}
use Rattle.hrv_compiler.specs.Verdict.{IsCompiled, Means, refusal_of}
use Rattle.hrv_compiler.specs.Map.{AreAllRight, ArePhases}
use Rattle.hrv_compiler.specs.Map.{map_text}
use Rattle.hrv_engines.specs.declared.faults.Refusal.{Refusal}
use Rattle.hrv_engines.specs.declared.faults.Refusal.TheVariants.{Compile}

-- The texts mean a program, in which no fault is. The text says where its layout has the data, which is the layout of every image of it
-- (`image_of`), and which of its words, which every image of it has, are the code of which phase; and, of some of a phase's words, of which stage
-- inside it. All these images do what is promised of compiled images. (That what is stored for the same texts has these words is no clause: both
-- commands ask the same call for them.)
pub record IsMap (alloc : Global) (texts : List ℕ × List ℕ) (text : List ℕ) : Type 0 where
  pub program : CompiledContents
  pub is_faultless : refusal_of alloc texts.0 texts.1 ≡ None
  pub is_program : Means alloc texts.0 texts.1 program
  pub is_compiled : IsCompiled program
  pub are_phases : ArePhases program
  pub are_right : AreAllRight program
  pub is_text : text ≡ map_text texts.0 program.pipeline program.schedule program.boxes program.ends program.stages

-- They are refused as they are to be compiled: by the first fault that there is.
abbrev pub IsRefusedMap : Global → List ℕ × List ℕ → Refusal → Type 0
IsRefusedMap alloc texts refusal = (fault : CompileFault) × (refusal ≡ Compile fault) × (refusal_of alloc texts.0 texts.1 ≡ Some fault)
