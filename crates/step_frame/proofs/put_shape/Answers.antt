-- `put_shape` puts the record of the top frame's shape. Assumes nothing.
use Rattle.step_frame.proofs.Closing.{none_earlier, shape_behind, shape_full}
use Rattle.step_frame.proofs.put_shape.Goals as goal

pub n_captures-k-requires : goal.n_captures-k-requires
n_captures-k-requires c = none_earlier c.requires.0 c.requires.1 c.frame_at-frame.ensures.from

pub put_pairs-requires-clause-count_in_bounds : goal.put_pairs-requires-clause-count_in_bounds
put_pairs-requires-clause-count_in_bounds c = none_earlier c.requires.0 c.requires.1 c.frame_at-frame.ensures.from

pub returns-in_err-next : goal.returns-in_err-next
returns-in_err-next c =
    rw c.from_residual.ensures
    (shape_full c.args.n _ _ _ c.requires.1 _ _ c.frame_at-frame.ensures.locals c.n_captures-k.ensures c.args.out.now c.put_record.new.out c.args.used c.in_err-next.ensures)

pub returns : goal.returns
returns c =
    shape_behind c.args.n _ _ _ c.requires.1 _ _ c.frame_at-frame.ensures.locals c.n_captures-k.ensures c.put_pairs.result c.args.out.now c.put_record.new.out c.put_pairs.new.out c.args.used c.in_ok-next.next c.put_record.auto.out c.in_ok-next.ensures c.put_pairs.ensures
