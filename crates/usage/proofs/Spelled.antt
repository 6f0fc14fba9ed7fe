-- How readings behind each other are written out.
use Rattle.std.proofs.Common.{◌≡◌, List, ◌∷◌, ◌++◌, codes, sym, refl, ap, ◌∙◌, append_assoc}
use Rattle.terms.specs.declared.text.Style.TheVariants as S
use Rattle.rules.specs.Reading.{Reading, concat}
use Rattle.rules.specs.Reading as R
use Rattle.rules.specs.Content.{Op, str, element_ops, spell}

pub spell-concat : (a b : Reading) → spell (concat a b) ≡ spell a ++ spell b
spell-concat R.end b = refl
spell-concat (R.one e r) b =
    ap (λ (ops : List Op). element_ops e ++ ops) (spell-concat r b) ∙ sym (append_assoc (element_ops e) (spell r) (spell b))
spell-concat (R.round i r) b =
    ap (λ (ops : List Op). str S.Text (codes "(") ∷ (spell i ++ (str S.Text (codes ")") ∷ ops))) (spell-concat r b)
    ∙ ap (λ (ops : List Op). str S.Text (codes "(") ∷ ops) (sym (append_assoc (spell i) (str S.Text (codes ")") ∷ spell r) (spell b)))
spell-concat (R.square i r) b =
    ap (λ (ops : List Op). str S.Text (codes "[") ∷ (spell i ++ (str S.Text (codes "]") ∷ ops))) (spell-concat r b)
    ∙ ap (λ (ops : List Op). str S.Text (codes "[") ∷ ops) (sym (append_assoc (spell i) (str S.Text (codes "]") ∷ spell r) (spell b)))
