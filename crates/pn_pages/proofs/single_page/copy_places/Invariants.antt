use Rattle.std.proofs.Common.{◌≡◌, take}
use Rattle.pn_pages.proofs.single_page.copy_places.Given as goal

abbrev pub invariant-loop-place : goal.invariant-loop-place
invariant-loop-place l = l.all ≡ take l.place-index l.places
