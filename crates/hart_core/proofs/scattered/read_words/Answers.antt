use Rattle.std.proofs.Common.{◌≡◌, ◌<◌, ◌+◌, ◌*◌, ◌/◌, ◌∙◌, refl, arith, ap, length, None}
use Rattle.std.specs.Prelude.{slice_set}
use Rattle.std.proofs.Math.ListN.{length-set}
use Rattle.memory.specs.Access.{Reads, first_fault}
use Rattle.vector_unit.specs.Vector.{count}
use Rattle.hart_core.specs.inner.Pieces.{spots}
use Rattle.hart_core.proofs.Scattering.{few_words, more-read, none-more, some-here, trap-passed}
use Rattle.hart_core.proofs.scattered.read_words.Goals as goal

pub bounds-words-at : goal.bounds-words-at
bounds-words-at g c =
    let few = few_words c.args.state.now c.requires.whole in
    let end = c.count-part-end.ensures.value in
    omega (arith, few, end, c.loop-part-test.true)

pub bounds-words-at-in-loop-part : goal.bounds-words-at-in-loop-part
bounds-words-at-in-loop-part g c =
    let few = few_words c.args.state.now c.requires.whole in
    let end = c.count-part-end.ensures.value in
    omega (arith, few, end, c.loop-part-test.true)

pub bounds-words-at-in-loop-part-2 : goal.bounds-words-at-in-loop-part-2
bounds-words-at-in-loop-part-2 g c =
    let few = few_words c.args.state.now c.requires.whole in
    let end = c.count-part-end.ensures.value in
    omega (arith, few, end, c.loop-part-test.true)

pub bounds-words-at-in-loop-part-3 : goal.bounds-words-at-in-loop-part-3
bounds-words-at-in-loop-part-3 g c =
    let few = few_words c.args.state.now c.requires.whole in
    let end = c.count-part-end.ensures.value in
    omega (arith, few, end, c.loop-part-test.true)

pub returns-in_err-words-clause-err : goal.returns-in_err-words-clause-err
returns-in_err-words-clause-err g c =
    let words = length (g.M.Bytes.text c.args.memory.now) in
    let bytes = length (g.M.Bytes.memory c.args.memory.now) in
    let state = c.args.state.now in
    let spacing = c.args.spacing in
    let base = c.args.base in
    let i = 4 * c.loop-part.part in
    let end = c.count-part-end.ensures.value in
    let f0 = c.loop-part.invariant.read.fits in
    let below : i < count state = omega (arith, end, c.loop-part-test.true) in
    let err = some-here words bytes state spacing base i (count state) _ below f0 c.in_err-words.ensures.err in
    trap-passed c.from_residual.result (first_fault words bytes Reads (spots state spacing base 0 (count state))) c.in_err-words.field-0.0
    c.from_residual.ensures.1 err

pub returns-in_err-words-2-clause-err : goal.returns-in_err-words-2-clause-err
returns-in_err-words-2-clause-err g c =
    let words = length (g.M.Bytes.text c.args.memory.now) in
    let bytes = length (g.M.Bytes.memory c.args.memory.now) in
    let state = c.args.state.now in
    let spacing = c.args.spacing in
    let base = c.args.base in
    let i = 4 * c.loop-part.part in
    let end = c.count-part-end.ensures.value in
    let f0 = c.loop-part.invariant.read.fits in
    let f1 : first_fault words bytes Reads (spots state spacing base 0 (i + 1)) ≡ None = none-more words bytes state spacing base i (i + 1) refl f0 c.in_ok-words.ensures.fits in
    let below : i + 1 < count state = omega (arith, end, c.loop-part-test.true) in
    let err = some-here words bytes state spacing base (i + 1) (count state) _ below f1 c.in_err-words-2.ensures.err in
    trap-passed c.from_residual-in_err-words-2.result (first_fault words bytes Reads (spots state spacing base 0 (count state))) c.in_err-words-2.field-0.0
    c.from_residual-in_err-words-2.ensures.1 err

pub returns-in_err-words-3-clause-err : goal.returns-in_err-words-3-clause-err
returns-in_err-words-3-clause-err g c =
    let words = length (g.M.Bytes.text c.args.memory.now) in
    let bytes = length (g.M.Bytes.memory c.args.memory.now) in
    let state = c.args.state.now in
    let spacing = c.args.spacing in
    let base = c.args.base in
    let i = 4 * c.loop-part.part in
    let end = c.count-part-end.ensures.value in
    let f0 = c.loop-part.invariant.read.fits in
    let f1 : first_fault words bytes Reads (spots state spacing base 0 (i + 1)) ≡ None = none-more words bytes state spacing base i (i + 1) refl f0 c.in_ok-words.ensures.fits in
    let f2 : first_fault words bytes Reads (spots state spacing base 0 (i + 2)) ≡ None = none-more words bytes state spacing base (i + 1) (i + 2) (omega arith) f1 c.in_ok-words-2.ensures.fits in
    let below : i + 2 < count state = omega (arith, end, c.loop-part-test.true) in
    let err = some-here words bytes state spacing base (i + 2) (count state) _ below f2 c.in_err-words-3.ensures.err in
    trap-passed c.from_residual-in_err-words-3.result (first_fault words bytes Reads (spots state spacing base 0 (count state))) c.in_err-words-3.field-0.0
    c.from_residual-in_err-words-3.ensures.1 err

pub returns-in_err-words-4-clause-err : goal.returns-in_err-words-4-clause-err
returns-in_err-words-4-clause-err g c =
    let words = length (g.M.Bytes.text c.args.memory.now) in
    let bytes = length (g.M.Bytes.memory c.args.memory.now) in
    let state = c.args.state.now in
    let spacing = c.args.spacing in
    let base = c.args.base in
    let i = 4 * c.loop-part.part in
    let end = c.count-part-end.ensures.value in
    let f0 = c.loop-part.invariant.read.fits in
    let f1 : first_fault words bytes Reads (spots state spacing base 0 (i + 1)) ≡ None = none-more words bytes state spacing base i (i + 1) refl f0 c.in_ok-words.ensures.fits in
    let f2 : first_fault words bytes Reads (spots state spacing base 0 (i + 2)) ≡ None = none-more words bytes state spacing base (i + 1) (i + 2) (omega arith) f1 c.in_ok-words-2.ensures.fits in
    let f3 : first_fault words bytes Reads (spots state spacing base 0 (i + 3)) ≡ None = none-more words bytes state spacing base (i + 2) (i + 3) (omega arith) f2 c.in_ok-words-3.ensures.fits in
    let below : i + 3 < count state = omega (arith, end, c.loop-part-test.true) in
    let err = some-here words bytes state spacing base (i + 3) (count state) _ below f3 c.in_err-words-4.ensures.err in
    trap-passed c.from_residual-in_err-words-4.result (first_fault words bytes Reads (spots state spacing base 0 (count state))) c.in_err-words-4.field-0.0
    c.from_residual-in_err-words-4.ensures.1 err

pub loop-part-preserved : goal.loop-part-preserved
loop-part-preserved g c =
    let text = g.M.Bytes.text c.args.memory.now in
    let memory = g.M.Bytes.memory c.args.memory.now in
    let state = c.args.state.now in
    let spacing = c.args.spacing in
    let base = c.args.base in
    let i = 4 * c.loop-part.part in
    let few = few_words state c.requires.whole in
    let end = c.count-part-end.ensures.value in
    let room : i + 3 < 16 = omega (arith, few, end, c.loop-part-test.true) in
    let words0 = c.loop-part.words in
    let words1 = slice_set words0 i c.in_ok-words.field-0 in
    let words2 = slice_set words1 (i + 1) c.in_ok-words-2.field-0 in
    let words3 = slice_set words2 (i + 2) c.in_ok-words-3.field-0 in
    let long0 : length words0 ≡ 16 = c.loop-part.invariant.long in
    let long1 : length words1 ≡ 16 = length-set words0 i c.in_ok-words.field-0 ∙ long0 in
    let long2 : length words2 ≡ 16 = length-set words1 (i + 1) c.in_ok-words-2.field-0 ∙ long1 in
    let long3 : length words3 ≡ 16 = length-set words2 (i + 2) c.in_ok-words-3.field-0 ∙ long2 in
    let read1 = more-read text memory state spacing base i (i + 1) words0 c.in_ok-words.field-0 refl (omega (arith, long0, room)) c.loop-part.invariant.read
    c.in_ok-words.ensures.fits c.in_ok-words.ensures.number in
    let read2 = more-read text memory state spacing base (i + 1) (i + 2) words1 c.in_ok-words-2.field-0 (omega arith) (omega (arith, long1, room)) read1
    c.in_ok-words-2.ensures.fits c.in_ok-words-2.ensures.number in
    let read3 = more-read text memory state spacing base (i + 2) (i + 3) words2 c.in_ok-words-3.field-0 (omega arith) (omega (arith, long2, room)) read2
    c.in_ok-words-3.ensures.fits c.in_ok-words-3.ensures.number in
    record {
      end = ap (λ n. n / 4) end;
      long = length-set words3 (i + 3) c.in_ok-words-4.field-0 ∙ long3;
      most = omega (arith, end, c.loop-part-test.true);
      read = more-read text memory state spacing base (i + 3) (4 * (c.loop-part.part + 1)) words3 c.in_ok-words-4.field-0 (omega arith)
          (omega (arith, long3, room)) read3 c.in_ok-words-4.ensures.fits c.in_ok-words-4.ensures.number;
    }
