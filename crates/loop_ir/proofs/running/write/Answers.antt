use Rattle.loop_ir.proofs.Points.{put_one, put_none, points_stay}
use Rattle.loop_ir.proofs.running.write.Goals as goal

pub returns-then-buffer_index-buffers-clause-points : goal.returns-then-buffer_index-buffers-clause-points
returns-then-buffer_index-buffers-clause-points c =
    points_stay c.args.buffers.now c.args.buffer_index c.set.new.self c.index-buffers-buffer_index.result c.if-buffer_index-buffers.true c.set.ensures.points

pub returns-then-buffer_index-buffers-clause-after : goal.returns-then-buffer_index-buffers-clause-after
returns-then-buffer_index-buffers-clause-after c =
    put_one c.args.buffers.now c.args.buffer_index c.args.x c.args.y c.args.pixel c.set.new.self c.index-buffers-buffer_index.result c.if-buffer_index-buffers.true
    c.set.ensures.pixels

pub returns-else-buffer_index-buffers-clause-after : goal.returns-else-buffer_index-buffers-clause-after
returns-else-buffer_index-buffers-clause-after c = put_none c.args.buffers.now c.args.buffer_index c.args.x c.args.y c.args.pixel c.if-buffer_index-buffers.false
