-- As many probabilities as values.
use Rattle.dl_reading.proofs.Common.{ap, length, Some}
use Rattle.dl_reading.proofs.Agreeing.{read_made}
use Rattle.dl_reading.proofs.Beside.{lengths_read}
use Rattle.dl_reading.proofs.losses.probs_beside.Goals as goal

pub returns-in_ok-made-in-Some : goal.returns-in_ok-made-in-Some
returns-in_ok-made-in-Some c =
    rw c.in-Some.is (read_made Some (lengths_read c.args.bounds c.args.count c.in-Some.list c.in_ok-made-in-Some.ensures.read
    c.in_ok-made-in-Some.ensures.values (ap length c.as_slice.ensures)
    (rw (c.none.ensures, c.span_if.ensures) at c.or.ensures)))
