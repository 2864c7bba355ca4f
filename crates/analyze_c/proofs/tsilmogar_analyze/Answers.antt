-- The call for C tells the report in nine numbers and leaves the same buffers. Assumes nothing.
use Rattle.analyze.proofs.Laws.{told, nine_numbers}
use Rattle.analyze_c.proofs.tsilmogar_analyze.Goals as goal

pub returns : goal.returns
returns c =
    told c.analyze_root-r.result c.analyze_root-r.ensures (nine_numbers c.analyze_root-r.result c.errored_number.ensures)
