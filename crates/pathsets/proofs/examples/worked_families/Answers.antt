use Rattle.std.proofs.Common.{◌≡◌, true, false, refl, ◌∙◌, rules}
use Rattle.frames.specs.declared.notes.Step.TheVariants.{Send}
use Rattle.frames.specs.Notes.{note}
use Rattle.std.proofs.lemmas.Bool.{not-true, not-false}
use Rattle.pathsets.proofs.WorkedFamilies.{worked_families_lem, of_one, of_two, of_three}
use Rattle.pathsets.proofs.examples.worked_families.Goals as goal

pub returns : goal.returns
returns c =
    let same : c.default-note.result ≡ note Send 0 0 0 = search rules in
    let one : c.is_hittable.result ≡ true = c.is_hittable.ensures.answer ∙ of_one c.default-note.result same _ 0b00100 c.holding.ensures ∙ not-false _ worked_families_lem.one in
    let two : c.is_hittable-2.result ≡ false = c.is_hittable-2.ensures.answer ∙ of_two c.default-note.result same _ _ 0b00100 0b01000 c.holding-2.ensures c.holding-3.ensures ∙ not-true _ worked_families_lem.two in
    let pairs : c.is_hittable-3.result ≡ true = c.is_hittable-3.ensures.answer ∙ of_two c.default-note.result same _ _ 0b01100 0b10100 c.holding-4.ensures c.holding-5.ensures ∙ not-false _ worked_families_lem.pairs in
    let triangle : c.is_hittable-4.result ≡ false =
    c.is_hittable-4.ensures.answer ∙ of_three c.default-note.result same _ _ _ 0b01100 0b10100 0b11000 c.holding-6.ensures c.holding-7.ensures c.holding-8.ensures ∙ not-true _ worked_families_lem.triangle in
    record { answer = rw (one, two, pairs, triangle) refl; families = worked_families_lem }
