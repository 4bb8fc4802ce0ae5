use Rattle.std.proofs.Common.{[], subst}
use Rattle.std.specs.List.{AllZip}
use Rattle.pn_pages.specs.Following.{IsTarget}
use Rattle.pn_pages.specs.Linking.{AreEnds}
use Rattle.pn_pages.specs.Naming.{all_holders}
use Rattle.pn_pages.proofs.flattening.find_by.Goals as goal

pub returns : goal.returns
returns c =
    let o = c.args.objects.now in
    let hs = all_holders c.args.id.now c.args.at o in
    let least = c.note_all.new.least in
    let named = c.in_ok-note_all.ensures [] c.requires in
    record {
      targets = subst (λ rs. AllZip (IsTarget o hs) rs c.in_ok-targets.targets.items) c.as_slice.ensures (c.in_ok-targets.ensures o hs least named);
      ends = subst (λ xs. AllZip (AreEnds o hs) xs c.in_ok-ends.ends.items) c.as_slice-2.ensures (c.in_ok-ends.ensures o hs least named);
      lowest = named.lowest;
    }
