use Rattle.std.proofs.Common.{arith, rules, refl, sym, ap, ◌∙◌, ◌+◌, ◌<◌, length, [], ◌∷◌}
use Rattle.lists.specs.Lists.{at, put}
use Rattle.lists.proofs.Writes.{put-none, stored-length, stored_entry, stored_list}
use Rattle.text.specs.Text.{decimal, filled}
use Rattle.text.specs.Templates.{Step}
use Rattle.text.proofs.Templates.{filled-le, sign_step, sign_there, byte_step}
use Rattle.text.proofs.fill_template.Goals as goal
use Rattle.text.proofs.fill_template.Goals.{then-byte-eq35, else-byte-eq35}

pub loop-byte-init : goal.loop-byte-init
unfolding filled
loop-byte-init c = (refl, omega arith, sym (put-none _ _))

pub bounds-values-next : goal.bounds-values-next
unfolding at
bounds-values-next c =
    sign_there c.args.template.now c.args.values.now c.loop-byte.byte-index c.loop-byte.invariant.0 (omega arith) refl c.if-byte-eq35.true c.requires.0

pub offset_bounds-values-next : goal.offset_bounds-values-next
unfolding at
offset_bounds-values-next c =
    let there : c.loop-byte.next < length c.args.values.now = sign_there c.args.template.now c.args.values.now c.loop-byte.byte-index c.loop-byte.invariant.0 (omega arith) refl c.if-byte-eq35.true c.requires.0 in
    search rules

pub overflow_add-next : goal.overflow_add-next
unfolding at
overflow_add-next c =
    let there : c.loop-byte.next < length c.args.values.now = sign_there c.args.template.now c.args.values.now c.loop-byte.byte-index c.loop-byte.invariant.0 (omega arith) refl c.if-byte-eq35.true c.requires.0 in
    search rules

pub decimal-end-requires : goal.decimal-end-requires
unfolding at
decimal-end-requires c =
    omega (
      arith,
      stored-length _ _ _ c.loop-byte.invariant.2 c.loop-byte.invariant.1 (omega (arith, filled-le c.args.template.now c.loop-byte.byte-index c.args.values.now)),
      (sign_step c.args.template.now c.args.values.now c.loop-byte.byte-index c.loop-byte.invariant.0 (omega arith) refl c.if-byte-eq35.true).room,
    )

pub bounds-out-end : goal.bounds-out-end
unfolding at
bounds-out-end c =
    omega (
      arith,
      stored-length _ _ _ c.loop-byte.invariant.2 c.loop-byte.invariant.1 (omega (arith, filled-le c.args.template.now c.loop-byte.byte-index c.args.values.now)),
      (byte_step c.args.template.now c.args.values.now c.loop-byte.byte-index c.loop-byte.invariant.0 (omega arith) refl c.if-byte-eq35.false).room,
    )

pub overflow_add-end : goal.overflow_add-end
unfolding at
overflow_add-end c =
    record { fits = omega (arith, (byte_step c.args.template.now c.args.values.now c.loop-byte.byte-index c.loop-byte.invariant.0 (omega arith) refl c.if-byte-eq35.false).room) }

pub loop-byte-preserved : goal.loop-byte-preserved
unfolding at
loop-byte-preserved c =
    elim c.if-byte-eq35.branch [
      | then-byte-eq35 w ↦
          let z : Step c.args.template.now c.args.values.now c.loop-byte.byte-index (decimal (at c.args.values.now c.loop-byte.next)) (c.loop-byte.next + 1) =
          sign_step _ _ _ c.loop-byte.invariant.0 (omega arith) refl w.if-byte-eq35.true in (
            w.next-is ∙ z.next,
            omega (arith, z.bytes),
            w.out-is ∙ w.decimal-end.ensures.1 ∙ stored_list _ _ _ c.loop-byte.invariant.2 c.loop-byte.invariant.1 _ (omega arith) ∙ ap (put _ _) (sym z.text),
          )
      | else-byte-eq35 w ↦
          let z : Step c.args.template.now c.args.values.now c.loop-byte.byte-index (at c.args.template.now c.loop-byte.byte-index ∷ []) c.loop-byte.next =
          byte_step _ _ _ c.loop-byte.invariant.0 (omega arith) refl w.if-byte-eq35.false in (
            w.next-is ∙ z.next,
            omega (arith, z.bytes),
            w.out-is ∙ stored_entry _ _ _ c.loop-byte.invariant.2 c.loop-byte.invariant.1 _ (omega (arith, z.room)) ∙ ap (put _ _) (sym z.text),
          )
    ]
