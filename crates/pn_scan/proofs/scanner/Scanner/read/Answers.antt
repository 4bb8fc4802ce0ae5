use Rattle.std.proofs.Common.{IfSome, length, sym, ap, subst, ◌∙◌}
use Rattle.std.specs.Option.{option_map}
use Rattle.pn_scan.specs.Viable.{IsViable}
use Rattle.pn_utf8.specs.Open.{open_bytes}
use Rattle.pn_scan.specs.Nestings.{nesting_of}
use Rattle.pn_scan.specs.Contexts.{state_of, Admits}
use Rattle.pn_utf8.proofs.TextLemmas.{ascii_alone}
use Rattle.pn_scan.proofs.ContextLemmas.{whole_of, kept_of}
use Rattle.pn_scan.proofs.ReadingLemmas.{too_long_is, no_character, no_markup, one_more}
use Rattle.pn_scan.proofs.scanner.Scanner.read.Goals as goal

pub returns-then-self-eq-BYTES : goal.returns-then-self-eq-BYTES
returns-then-self-eq-BYTES c b r = let s = c.args.self.now in too_long_is s.tree s.kept s.context s.opened s.count b c.args.byte r c.if-self-eq-BYTES.true

pub returns-in_default : goal.returns-in_default
returns-in_default c b r =
    let s = c.args.self.now in no_character s.tree s.kept s.context s.opened s.count b c.args.byte r c.if-self-eq-BYTES.false (sym c.in_default.ensures)

pub advance-requires-clause-checked : goal.advance-requires-clause-checked
advance-requires-clause-checked c =
    let s = c.args.self.now in
    kept_of s.context s.kept (nesting_of s.tree) (length c.requires.0) (open_bytes s.opened) c.requires.1.fed.viable

pub advance-requires-clause-whole : goal.advance-requires-clause-whole
advance-requires-clause-whole c low =
    let s = c.args.self.now in
    let p = nesting_of s.tree in
    let alone = ascii_alone (open_bytes s.opened) c.args.byte (open_bytes c.in-Some.opened) low (sym c.in-Some.ensures) in
    whole_of s.context s.kept p (length c.requires.0) (subst (IsViable (state_of p s.kept s.context) (length c.requires.0)) alone.0 c.requires.1.fed.viable)

pub returns-in-Ok-Some : goal.returns-in-Ok-Some
returns-in-Ok-Some c b r =
    let s = c.args.self.now in
    let q = nesting_of c.advance.new.tree in
    let k = c.advance.new.kept in
    let is = ap (option_map (state_of q k)) (sym c.in-Ok-Some.field-0-is) ∙ c.in-Ok-Some.ensures.state in
    one_more s.tree c.advance.new.tree s.kept k s.context c.in-Ok-Some.context s.opened c.in-Some.opened s.count b c.args.byte r c.if-self-eq-BYTES.false c.in-Some.ensures is
    c.in-Ok-Some.ensures.belongs (subst (λ o. IfSome o (Admits q)) c.in-Ok-Some.field-0-is c.in-Ok-Some.ensures.fits)

pub returns-in-Ok-None : goal.returns-in-Ok-None
returns-in-Ok-None c b r =
    let s = c.args.self.now in
    let is = ap (option_map (state_of (nesting_of c.advance.new.tree) c.advance.new.kept)) (sym c.in-Ok-None.field-0-is) ∙ c.in-Ok-None.ensures.state in
    no_markup s.tree s.kept s.context s.opened s.count b c.args.byte r c.if-self-eq-BYTES.false (sym is)
