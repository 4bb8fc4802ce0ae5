-- The canonical text of a tree is a document.
use Rattle.std.proofs.Common.{[], ◌++◌, codes, length, refl}
use Rattle.pn_tree.specs.Canonical.{element_text, canonical_text}
use Rattle.pn_tree.specs.Elements.{IsTree}
use Rattle.pn_tree.specs.declared.element.Element.{Element}
use Rattle.pn_text.proofs.TextLemmas.{is_text-append}
use Rattle.pn_markup.specs.Declaration.{Declared, is_version, is_encoding, XMLDecl}
use Rattle.pn_markup.specs.Document.{Prolog}
use Rattle.pn_markup.specs.Misc.{Misc, nothing, space}
use Rattle.pn_markup.specs.Offsets.{SpellsAlike}
use Rattle.pn_markup.proofs.ContentLemmas.{spelled}
use Rattle.pn_markup.proofs.WrittenLemmas.{element_is_text}

version_declared : Declared (codes "version") is_version (codes " version=\"1.0\"")
version_declared = record {
  space = codes " ";
  equals = codes "=";
  value = codes "1.0";
  quote = 34;
  space_is = refl;
  equals_is = ([], [], refl, refl, refl);
  quoted = refl;
  good = refl;
  whole = refl;
}

encoding_declared : Declared (codes "encoding") is_encoding (codes " encoding=\"UTF-8\"")
encoding_declared = record {
  space = codes " ";
  equals = codes "=";
  value = codes "UTF-8";
  quote = 34;
  space_is = refl;
  equals_is = ([], [], refl, refl, refl);
  quoted = refl;
  good = refl;
  whole = refl;
}

xml_declared : XMLDecl (codes "<?xml version=\"1.0\" encoding=\"UTF-8\"?>")
xml_declared = record {
  version = codes " version=\"1.0\"";
  encoding = codes " encoding=\"UTF-8\"";
  standalone = [];
  space = [];
  version_is = version_declared;
  encoding_is = encoding_declared;
  standalone_is = tt;
  space_is = refl;
  whole = refl;
}

line_end : Misc (codes "\n")
line_end = space (codes "\n") 10 [] refl (nothing [] refl) refl

canonical_prolog : Prolog (codes "<?xml version=\"1.0\" encoding=\"UTF-8\"?>\n")
canonical_prolog = record {
  mark = [];
  declaration = codes "<?xml version=\"1.0\" encoding=\"UTF-8\"?>";
  misc = codes "\n";
  is_mark = tt;
  is_declaration = xml_declared;
  is_misc = line_end;
  whole = refl;
}

-- the canonical text of a tree is a document
pub canonical_spells : (e : Element) → IsTree e → SpellsAlike e (canonical_text e)
canonical_spells e h =
    let front = codes "<?xml version=\"1.0\" encoding=\"UTF-8\"?>\n" in
    let root = spelled 256 (length front) e h in
    record {
      tree = root.tree;
      is_document = record {
        characters = is_text-append front (element_text e ++ codes "\n") refl (is_text-append (element_text e) (codes "\n") (element_is_text 256 e h) refl);
        markup = record {
          prolog = front;
          root = element_text e;
          misc = codes "\n";
          is_prolog = canonical_prolog;
          is_root = root.spells;
          is_misc = line_end;
          whole = refl;
        };
      };
      alike = root.alike;
    }
