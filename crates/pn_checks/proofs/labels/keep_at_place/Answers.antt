use Rattle.pn_net.specs.Typing.{IsTermOver}
use Rattle.pn_checks.proofs.LabelLemmas.{judged_none, judged_some}
use Rattle.pn_checks.proofs.labels.keep_at_place.Goals as goal

pub returns-in_ok-keep_unless-in-Some : goal.returns-in_ok-keep_unless-in-Some
returns-in_ok-keep_unless-in-Some c =
    judged_some c.args.decls.now c.args.term.now (IsTermOver c.args.sort.now) c.args.label.now c.in_ok-given.field-0 c.in-Some.given c.in_ok-is_right-in-Some.is_right c.args.least.now c.keep_term.new.least c.keep_unless.new.least
    c.in-Some.is c.in_ok-given.ensures c.in_ok-is_right-in-Some.ensures c.in_ok-keep_unless-in-Some.ensures.right c.in_ok-keep_unless-in-Some.ensures.wrong

pub returns-in-None : goal.returns-in-None
returns-in-None c = judged_none c.args.decls.now c.args.term.now (IsTermOver c.args.sort.now) c.args.label.now c.in_ok-given.field-0 c.args.least.now c.keep_term.new.least c.in-None.is c.in_ok-given.ensures
