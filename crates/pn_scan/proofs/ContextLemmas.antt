-- What holds of the states that a document's front leads to, for the contexts that they are.
use Rattle.std.proofs.Common.{ℕ, List, []}
use Rattle.pn_scan.specs.State.{Nesting}
use Rattle.pn_scan.specs.Viable.{IsViable}
use Rattle.pn_scan.specs.Contexts.{state_of, KeepsWhole, WasChecked}
use Rattle.pn_scan.specs.declared.context.Context.{Context}
use Rattle.pn_scan.specs.declared.context.Kept.{Kept}
use Rattle.pn_scan.specs.declared.context.Context.TheVariants as contexts
use Rattle.pn_utf8.proofs.TextLemmas.{cut_text}
use Rattle.pn_markup.proofs.NameLemmas.{name_of_bytes}
use Rattle.pn_markup.proofs.CutLemmas.{quote_low}

pub whole_of : (m : Context) (k : Kept) (p : Nesting) (at : ℕ) → IsViable (state_of p k m) at [] → KeepsWhole k m
whole_of contexts.Start k p at v = tt
whole_of contexts.First k p at v = tt
whole_of contexts.Between k p at v = tt
whole_of (contexts.Run brackets cr) k p at v = cut_text k.text.items v.1
whole_of (contexts.Markup first begin) k p at v = tt
whole_of contexts.Bang k p at v = tt
whole_of (contexts.Comment dash) k p at v = tt
whole_of (contexts.Target first) k p at v = tt
whole_of (contexts.Instruction question) k p at v = tt
whole_of (contexts.Section brackets cr) k p at v = cut_text k.text.items v.1
whole_of (contexts.Name begin) k p at v = name_of_bytes k.name.items (cut_text k.name.items v.2) v.1
whole_of (contexts.Tag spaced) k p at v = tt
whole_of contexts.Attribute k p at v = cut_text k.name.items v.2
whole_of contexts.BeforeEquals k p at v = tt
whole_of contexts.BehindEquals k p at v = tt
whole_of (contexts.Value quote cr) k p at v = cut_text k.text.items v.1
whole_of (contexts.Reference holder) k p at v = tt
whole_of (contexts.Entity holder) k p at v = tt
whole_of (contexts.NumberSign holder) k p at v = tt
whole_of (contexts.Number holder base number any) k p at v = tt
whole_of (contexts.Due word read next) k p at v = tt
whole_of (contexts.EndName read) k p at v = tt
whole_of (contexts.Declaration stage spaced) k p at v = tt
whole_of (contexts.BeforePartEquals part) k p at v = tt
whole_of (contexts.BehindPartEquals part) k p at v = tt
whole_of (contexts.PartValue part quote) k p at v = tt

pub kept_of : (m : Context) (k : Kept) (p : Nesting) (at : ℕ) (open_bytes : List ℕ) → IsViable (state_of p k m) at open_bytes → WasChecked p k m
kept_of contexts.Start k p at o v = tt
kept_of contexts.First k p at o v = tt
kept_of contexts.Between k p at o v = tt
kept_of (contexts.Run brackets cr) k p at o v = tt
kept_of (contexts.Markup first begin) k p at o v = tt
kept_of contexts.Bang k p at o v = tt
kept_of (contexts.Comment dash) k p at o v = tt
kept_of (contexts.Target first) k p at o v = tt
kept_of (contexts.Instruction question) k p at o v = tt
kept_of (contexts.Section brackets cr) k p at o v = tt
kept_of (contexts.Name begin) k p at o v = tt
kept_of (contexts.Tag spaced) k p at o v = tt
kept_of contexts.Attribute k p at o v = tt
kept_of contexts.BeforeEquals k p at o v = tt
kept_of contexts.BehindEquals k p at o v = tt
kept_of (contexts.Value quote cr) k p at o v = record {
  is_name = name_of_bytes k.name.items v.0.attribute.is_text v.0.attribute.is_name;
  is_new = v.0.attribute.is_new;
  quoted = quote_low quote v.0.quoted;
}
kept_of (contexts.Reference holder) k p at o v = tt
kept_of (contexts.Entity holder) k p at o v = tt
kept_of (contexts.NumberSign holder) k p at o v = tt
kept_of (contexts.Number holder base number any) k p at o v = tt
kept_of (contexts.Due word read next) k p at o v = tt
kept_of (contexts.EndName read) k p at o v = tt
kept_of (contexts.Declaration stage spaced) k p at o v = tt
kept_of (contexts.BeforePartEquals part) k p at o v = tt
kept_of (contexts.BehindPartEquals part) k p at o v = tt
kept_of (contexts.PartValue part quote) k p at o v = v.2
