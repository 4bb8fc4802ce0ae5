use Rattle.std.proofs.Common.{arith}
use Rattle.pn_mode_text.proofs.IdLemmas.{byte_breaks, byte_read, text_read}
use Rattle.pn_mode_text.proofs.ids.escaped_text.Goals as goal

pub returns-in-Err : goal.returns-in-Err
returns-in-Err c = byte_breaks c.args.text.now c.args.bytes.now c.loop-at.at c.loop-at.rest.now c.in-Err.left c.loop-at-test.true c.loop-at.invariant c.in-Err.ensures

pub loop-at-preserved : goal.loop-at-preserved
loop-at-preserved c = byte_read c.args.text.now c.args.bytes.now c.loop-at.at c.loop-at.rest.now c.in-Ok.more.now c.loop-at-test.true c.loop-at.invariant c.in-Ok.ensures

pub returns : goal.returns
returns c = text_read c.args.text.now c.args.bytes.now c.loop-at.at c.loop-at.rest.now (omega (arith, c.loop-at-test.false)) c.loop-at.invariant
