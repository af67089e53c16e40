-- `design::planes::add` meets its contract. The loop's invariant: the planes passed have taken the mask, and the carry is left (proofs/Rows).
-- Assumes nothing.
use native.Mathlib.Omega.{arith}
use Rattle.design.proofs.Rows.{adding_none, adding_next, adding_done, adding_end}
use Rattle.design.proofs.planes.add.Goals as goal

pub loop-word-init : goal.loop-word-init
loop-word-init c = adding_none _ _ (omega arith) (omega arith)

pub loop-word-preserved : goal.loop-word-preserved
loop-word-preserved c = adding_next _ _ _ _ _ c.loop-word.invariant (omega arith)

pub returns-then-carry-eq0 : goal.returns-then-carry-eq0
returns-then-carry-eq0 c =
    adding_done _ _ _ _ _ (adding_next _ _ _ _ _ c.loop-word.invariant (omega arith)) c.if-carry-eq0.true

pub returns-after-loop-word : goal.returns-after-loop-word
returns-after-loop-word c = adding_end _ _ _ _ _ c.loop-word.invariant c.requires (omega arith)
