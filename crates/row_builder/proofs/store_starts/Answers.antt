use Rattle.std.proofs.Common.{List, [], ◌∷◌, ◌++◌, ◌≡◌, ℕ, ◌+◌, ◌≤◌, ◌<◌, length, set, refl, sym, ap, ◌∙◌, arith}
use Rattle.lists.specs.Lists.{at, put}
use Rattle.lists.specs.Below.{sum_below, map_below, join_below}
use Rattle.lists.proofs.Loops.{by_end, sum_below-next, map_below-next}
use Rattle.lists.proofs.SumsBelow.{sum_below-next-le}
use Rattle.lists.proofs.JoinBelow.{length-map_below, map_below-at}
use Rattle.lists.proofs.Writes.{put-none, at_front, behind-front, stored-length, stored_entry}
use Rattle.row_builder.proofs.store_starts.Goals as goal

abbrev starts : List ℕ → ℕ → ℕ
starts counts i = sum_below i (at counts)

-- f 0, f 1, .. up to f (k - 1) stored from place i on
module _ (t : List ℕ) (i k : ℕ) (f : ℕ → ℕ) {u : List ℕ} (w : u ≡ put t i (map_below k f)) where
  place : i + k ≡ i + length (map_below k f)
  place = omega (arith, length-map_below k f)

  listed-length : i + k ≤ length t → length u ≡ length t
  listed-length h = stored-length t i (map_below k f) w place h

  listed_next : {j x : ℕ} → j ≡ i + k → x ≡ f k → i + k < length t → set u j x ≡ put t i (map_below (k + 1) f)
  listed_next e q h =
      stored_entry t i (map_below k f) w (e ∙ place) _ (omega arith)
      ∙ ap (put t i) (ap (λ x. map_below k f ++ (x ∷ [])) q ∙ sym (map_below-next k f))

-- the count of the bus at hand is still there
count_there : (counts : List ℕ) (i : ℕ) {now : List ℕ} → now ≡ put counts 0 (map_below i (starts counts)) → at now i ≡ at counts i
count_there counts i e = ap (λ l. at l i) e ∙ behind-front counts _ i (omega (arith, length-map_below i (starts counts)))

pub loop-bus-init : goal.loop-bus-init
unfolding map_below join_below sum_below
loop-bus-init c = (refl, sym (put-none _ _), sym (put-none _ _))

pub overflow_add-start : goal.overflow_add-start
unfolding at
overflow_add-start c =
    let v = c.loop-bus in
    let counts = c.args.counts.now in
    omega (
      arith,
      count_there counts v.bus v.invariant.1,
      v.invariant.0,
      c.requires.counts_len.1,
      sum_below-next-le (at counts) {i = v.bus} c.args.n (omega arith),
    )

pub loop-bus-preserved : goal.loop-bus-preserved
unfolding at
loop-bus-preserved c =
    let v = c.loop-bus in
    let counts = c.args.counts.now in
    let z = count_there counts v.bus v.invariant.1 in (
      omega (arith, v.invariant.0, z, sum_below-next v.bus (at counts)),
      listed_next _ _ _ _ v.invariant.1 (omega arith) v.invariant.0 (omega (arith, c.requires.n_le_max_buses, c.requires.counts_len)),
      listed_next _ _ _ _ v.invariant.2 refl v.invariant.0 (omega (arith, c.requires.n_le_max_buses)),
    )

pub returns-clause-table_after : goal.returns-clause-table_after
returns-clause-table_after c =
    let v = c.loop-bus in
    let f : ℕ → ℕ = starts c.args.counts.now in
    by_end (λ k. set v.table (c.args.from + k) v.start ≡ put c.args.table.now c.args.from (map_below (k + 1) f))
    (listed_next _ _ _ _ v.invariant.2 refl v.invariant.0 (omega (arith, c.requires.n_le_max_buses, v.auto.bus-end)))
    v.auto.bus-end c.loop-bus-test.false

pub returns-clause-value : goal.returns-clause-value
returns-clause-value c =
    let v = c.loop-bus in
    let counts = c.args.counts.now in
    let f : ℕ → ℕ = starts counts in
    let all = c.loop-bus-test.false in (
      by_end (λ k. v.start ≡ f k) v.invariant.0 v.auto.bus-end all,
      record {
        size = listed-length _ _ _ _ v.invariant.1 (omega (arith, c.requires.n_le_max_buses, c.requires.counts_len)) ∙ c.requires.counts_len.0;
        each = λ i l.
            ap (λ t. at t i) v.invariant.1
            ∙ at_front counts _ i (omega (arith, length-map_below v.bus f, all))
            ∙ map_below-at f v.bus (omega (arith, all));
      },
    )
