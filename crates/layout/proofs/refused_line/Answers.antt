-- `layout::refused_line` meets its contract: refused where the buffer is short, else written. Assumes nothing.
use Rattle.design.proofs.Refused.{handed_err}
use Rattle.layout.specs.Text.{refused_line}
use Rattle.layout.specs.Calls.{refused_rules}
use Rattle.layout.proofs.Calls.{accepted, refused, refused_kept, refused_short}
use Rattle.layout.proofs.refused_line.Goals as goal

pub returns-in_err-room_for : goal.returns-in_err-room_for
returns-in_err-room_for c =
    let short = c.in_err-room_for.ensures in
    rw (handed_err _ c.from_residual.ensures, short.0) (refused (refused_rules c.args.buffer.now) (refused_line c.args.number) c.args.buffer.now (refused_short _ short.1))

pub returns : goal.returns
returns c =
    accepted (refused_rules c.args.buffer.now) (refused_line c.args.number) c.args.buffer.now (refused_kept _ c.in_ok-room_for.ensures) c.refused.ensures
