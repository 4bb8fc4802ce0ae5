use Rattle.std.proofs.Common.{sym, subst}
use Rattle.pn_mode_text.specs.Texts.{IsTokenText}
use Rattle.pn_stepping.specs.Stepping.{IsUnfired}
use Rattle.pn_stepping.proofs.told.tell_fault.Goals as goal

pub returns-in-Ok-token_bytes : goal.returns-in-Ok-token_bytes
returns-in-Ok-token_bytes c = λ words is.
    let f = c.args.net.now in
    let token = c.in-NotEnabled.token in
    (token, subst (IsUnfired f words) c.in-NotEnabled.is is, subst (IsTokenText f token) (sym c.from_vec-in-Ok-token_bytes.ensures) c.in-Ok-token_bytes.ensures)

pub returns-in-Ok-token_bytes-2 : goal.returns-in-Ok-token_bytes-2
returns-in-Ok-token_bytes-2 c = λ words is.
    let f = c.args.net.now in
    let token = c.in-TokenTooLarge.token in
    (token, subst (IsUnfired f words) c.in-TokenTooLarge.is is, subst (IsTokenText f token) (sym c.from_vec-in-Ok-token_bytes-2.ensures) c.in-Ok-token_bytes-2.ensures)
