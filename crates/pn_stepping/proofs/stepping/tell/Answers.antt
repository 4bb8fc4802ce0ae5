use Rattle.std.proofs.Common.{Err, ap, refl, subst}
use Rattle.pn_mode_text.specs.ModeReadings.{IsWord}
use Rattle.pn_words.specs.Languages.{IsBadPlace}
use Rattle.pn_stepping.specs.Stepping.{IsMadeOf}
use Rattle.pn_stepping.specs.Telling.{AreTheEntry}
use Rattle.pn_stepping.proofs.stepping.tell.Goals as goal

pub returns-in-Ok-clause-told : goal.returns-in-Ok-clause-told
returns-in-Ok-clause-told c =
    let counted = c.in-Ok.counted in
    subst (λ w. AreTheEntry c.args.net.now w counted) c.as_str.ensures.value (record {
      told = c.in-Ok.ensures.word;
      only = λ other told. let same = c.in-Ok.ensures.only other.1 other.0 told in λ i. (same.1 i, same.0 i);
    })

pub returns-in-Err-BadMode-clause-untold : goal.returns-in-Err-BadMode-clause-untold
returns-in-Err-BadMode-clause-untold c =
    let length = c.in-Err-BadMode.length in
    let f = c.args.net.now in (
      refl,
      subst (λ w. IsBadPlace (IsWord f) w length) c.as_str.ensures.value (c.in-Err-BadMode.ensures.place length (ap Err c.in-Err-BadMode.field-0-is)),
      subst (λ w. IsMadeOf f w → ⊥) c.as_str.ensures.value (λ made. c.in-Err-BadMode.ensures.none length (ap Err c.in-Err-BadMode.field-0-is) made.0.1 made.0.0 made.1),
    )
