use Rattle.std.proofs.Common.{◌≡◌, not, refl, sym, ap, ◌∙◌, arith, eq-eqb, ne_eqb}
use Rattle.refusals.proofs.Due.{answer, stop, pass, accept}
use Rattle.table_spec.specs.Holds.{weights_in_range}
use Rattle.file_spec.specs.FileBytes.{word_at, file_weight_count, file_weights}
use Rattle.file_spec.specs.Sections.{weight_section_causes}
use Rattle.file_spec.proofs.WeightBytes.{weights_read}
use Rattle.file_sections.proofs.Lengths.{cut, reaches, longer, all_read}
use Rattle.file_sections.proofs.CountedFile.weight_section.Goals as goal

pub returns-then-file-weights_at : goal.returns-then-file-weights_at
returns-then-file-weights_at c = answer (weight_section_causes _) tt (stop (cut _ _ (omega arith)))

-- the weight count was read from behind the records
pub returns-then-word-self : goal.returns-then-word-self
returns-then-word-self c =
    let f = c.args.self.now.file.now in
    let read : c.word.result ≡ file_weight_count f = c.word.ensures.0 ∙ ap (word_at f) c.requires in
    let other = ne_eqb _ _ (λ e. c.if-word-self.true (read ∙ e ∙ sym c.args.self.now.counted.0)) in
    answer (weight_section_causes f) tt (pass (reaches _ _ (omega arith)) (stop (ap not other)))

pub returns-then-file-weights_end : goal.returns-then-file-weights_end
returns-then-file-weights_end c =
    let f = c.args.self.now.file.now in
    let read : c.word.result ≡ file_weight_count f = c.word.ensures.0 ∙ ap (word_at f) c.requires in
    let same = eq-eqb _ _ (sym read ∙ c.if-word-self.false ∙ c.args.self.now.counted.0) in
    answer (weight_section_causes f) tt (pass (reaches _ _ (omega arith)) (pass (ap not same) (stop (cut _ _ (omega arith)))))

-- and the weights are the file's
pub returns-then-not-weights_in_range : goal.returns-then-not-weights_in_range
returns-then-not-weights_in_range c =
    let f = c.args.self.now.file.now in
    let read : c.word.result ≡ file_weight_count f = c.word.ensures.0 ∙ ap (word_at f) c.requires in
    let same = eq-eqb _ _ (sym read ∙ c.if-word-self.false ∙ c.args.self.now.counted.0) in
    let seen : c.weights_in_range.result ≡ weights_in_range (file_weights f) =
    c.weights_in_range.ensures ∙ ap weights_in_range (weights_read f c.args.self.now.counted.0 c.requires) in
    answer (weight_section_causes f) tt
    (pass (reaches _ _ (omega arith))
    (pass (ap not same) (pass (reaches _ _ (omega arith)) (stop (ap not (sym seen ∙ c.if-not-weights_in_range.true))))))

pub returns-then-weights_end-file : goal.returns-then-weights_end-file
returns-then-weights_end-file c =
    let f = c.args.self.now.file.now in
    let read : c.word.result ≡ file_weight_count f = c.word.ensures.0 ∙ ap (word_at f) c.requires in
    let same = eq-eqb _ _ (sym read ∙ c.if-word-self.false ∙ c.args.self.now.counted.0) in
    let seen : c.weights_in_range.result ≡ weights_in_range (file_weights f) =
    c.weights_in_range.ensures ∙ ap weights_in_range (weights_read f c.args.self.now.counted.0 c.requires) in
    answer (weight_section_causes f) tt
    (pass (reaches _ _ (omega arith))
    (pass (ap not same)
    (pass (reaches _ _ (omega arith)) (pass (ap not (sym seen ∙ c.if-not-weights_in_range.false)) (stop (longer _ _ (omega arith)))))))

pub returns : goal.returns
returns c =
    let f = c.args.self.now.file.now in
    let read : c.word.result ≡ file_weight_count f = c.word.ensures.0 ∙ ap (word_at f) c.requires in
    let same = eq-eqb _ _ (sym read ∙ c.if-word-self.false ∙ c.args.self.now.counted.0) in
    let seen : c.weights_in_range.result ≡ weights_in_range (file_weights f) =
    c.weights_in_range.ensures ∙ ap weights_in_range (weights_read f c.args.self.now.counted.0 c.requires) in
    answer (weight_section_causes f) tt
    (pass (reaches _ _ (omega arith))
    (pass (ap not same)
    (pass (reaches _ _ (omega arith))
    (pass (ap not (sym seen ∙ c.if-not-weights_in_range.false)) (pass (all_read _ _ (omega arith)) (accept refl refl))))))
