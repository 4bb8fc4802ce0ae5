use Rattle.std.proofs.Common.{map, string_bytes, subst}
use Rattle.pn_command.proofs.StepLemmas.{bad_mode_behind, not_a_mode_behind}
use Rattle.pn_command.specs.Words.{arguments_of}
use Rattle.pn_stepping.specs.Refusing.{IsRefusedStep}
use Rattle.pn_command.proofs.stepping.unfired_line.Goals as goal

pub number_of-word-requires : goal.number_of-word-requires
number_of-word-requires c =
    let told = subst (IsRefusedStep c.requires.0 (arguments_of (map string_bytes c.args.words.now))) c.in-BadMode.is c.requires.1 in
    bad_mode_behind c.requires.0 c.args.words.now c.in-BadMode.place c.in-BadMode.length told

pub number_of-requires : goal.number_of-requires
number_of-requires c =
    let told = subst (IsRefusedStep c.requires.0 (arguments_of (map string_bytes c.args.words.now))) c.in-NotAMode.is c.requires.1 in
    not_a_mode_behind c.requires.0 c.args.words.now c.in-NotAMode.place told
