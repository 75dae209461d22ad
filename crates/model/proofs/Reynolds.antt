-- The slack of a cell is what Reynolds' equation leaves there, if the film is formed from thicknesses and a wedge number.
--
-- A formed film knows the thicknesses only through its coefficients: each cell's diagonal and source, and a link for each side that
-- two cells share. Reynolds' equation has thicknesses and pressures, and pressure 0 on the boundary ring. The two agree in every
-- field and at every cell, also at the grid's edge, and for three reasons.
--   A link is the h³ of its side, half-way between the two cells, times the factor of its direction, and so is the same from either.
--   A side towards the ring has no link and pulls nothing: that is its h³ times the ring's pressure, 0.
--   The diagonal is the sum over all four sides, those towards the ring too: it gathers the cell's own share of the four fluxes.
-- So a field in which no slack is negative is one in which the equation leaves at least 0 at every cell.
use mathlib.Core.Path.{◌≡◌, refl, sym, ap, ap₂, ◌∙◌}
use mathlib.Core.List.{List, []}
use Prim.Native.Nat.{ℕ, ◌+◌, ◌-◌, ◌*◌, ◌/◌, ◌%◌, ◌<◌}
use native.Mathlib.Nat.{mul-add, mul_assoc, add_comm, add-sub_cancel, div-add-mod', div-lt_iff_lt-mul, mod-lt}
use native.Mathlib.Omega.{arith}
use borrow.Author.Tests.{lt-ltb}
use lib.IntN.{ℤ, pos, neg_ℤ, sub_ℕ, ◌+ℤ◌, ◌-ℤ◌, ◌*ℤ◌, +ℤ_comm}
use lib.ListN.{get_or}
use Rattle.monotone.proofs.Compare.{pos_right}
use Rattle.model.specs.Lists.{tabulate}
use Rattle.model.specs.Gauge.{Gauge, thickness_at, factors_of}
use Rattle.model.specs.Film.{diagonal_at, right_at, up_at, slack_of, slack}
use Rattle.model.specs.Coefficients.{link_of, left_link, right_link, down_link, up_link, formed_diagonal, formed_right, formed_up, formed_source, by_cell, formed}
use Rattle.model.specs.Reynolds.{pressure_at, doubled, cube, reynolds}
use Rattle.model.proofs.Integers.{sub_pos, sub_add, sub_sub, sub_neg, mul_sub, sub_same}
use Rattle.model.proofs.Lists.{tabulate_at}
use Rattle.model.proofs.Sides.{index, Inside, index_low, index_row, index_column, left_index, down_index, number_at_lem, Linked, pull_sides}

-- ---- the balance of a cell, over plain numbers

-- a flux: h³ × a difference of pressure
flux_sub : (k a b : ℕ) → pos k *ℤ (pos a -ℤ pos b) ≡ sub_ℕ (k * a) (k * b)
flux_sub k a b = ap (λ (z : ℤ). pos k *ℤ z) (sub_pos a b) ∙ mul_sub k a b

-- the difference of two fluxes: from pressure a over h³ = k into the cell with pressure x, and on over h³ = m to pressure b
fluxes_sub : (k m x a b : ℕ) → pos m *ℤ (pos b -ℤ pos x) -ℤ pos k *ℤ (pos x -ℤ pos a) ≡ sub_ℕ (m * b + k * a) (m * x + k * x)
fluxes_sub k m x a b = ap₂ (λ (y z : ℤ). y -ℤ z) (flux_sub m b x) (flux_sub k x a) ∙ sub_sub (m * b) (m * x) (k * x) (k * a)

-- and that k times
factor_sub : (f k m x a b : ℕ)
    → pos f *ℤ (pos m *ℤ (pos b -ℤ pos x) -ℤ pos k *ℤ (pos x -ℤ pos a)) ≡ sub_ℕ (f * m * b + f * k * a) (f * m * x + f * k * x)
factor_sub f k m x a b =
    ap (λ (z : ℤ). pos f *ℤ z) (fluxes_sub k m x a b)
    ∙ mul_sub f (m * b + k * a) (m * x + k * x)
    ∙ ap₂ sub_ℕ (mul-add f (m * b) (k * a) ∙ ap₂ (λ s t. s + t) (sym (mul_assoc f m b)) (sym (mul_assoc f k a)))
    (mul-add f (m * x) (k * x) ∙ ap₂ (λ s t. s + t) (sym (mul_assoc f m x)) (sym (mul_assoc f k x)))

-- a − b + s ≡ s − (t + v), if t + v is a − b with its sign turned
turned : (a b c d m n : ℕ) (s : ℤ) {t v : ℤ} → t ≡ sub_ℕ c d → v ≡ sub_ℕ m n → a + (c + m) ≡ d + n + b → pos a -ℤ pos b +ℤ s ≡ s -ℤ (t +ℤ v)
turned a b c d m n s {t} {v} e f h =
    let sum : t +ℤ v ≡ sub_ℕ (c + m) (d + n) = ap₂ (λ (y z : ℤ). y +ℤ z) e f ∙ sub_add c d m n in
    let sign : pos a -ℤ pos b ≡ neg_ℤ (t +ℤ v) = sub_pos a b ∙ sub_same a b (d + n) (c + m) h ∙ sym (ap neg_ℤ sum ∙ sub_neg (c + m) (d + n)) in
    ap (λ (z : ℤ). z +ℤ s) sign ∙ +ℤ_comm (neg_ℤ (t +ℤ v)) s

-- the balance in links: that of the left, right, down and up side is l, r, d, u, and the pressure beyond it pl, pr, pd, pu; the cell's own is x, its
-- source s, and t and v are the differences of flux
linked_balance : (l r d u x pl pr pd pu : ℕ) (s : ℤ) {t v : ℤ} → t ≡ sub_ℕ (r * pr + l * pl) (r * x + l * x) → v ≡ sub_ℕ (u * pu + d * pd) (u * x + d * x)
    → slack_of (l + r + d + u) (l * pl + r * pr + (d * pd + u * pu)) s x ≡ s -ℤ (t +ℤ v)
linked_balance l r d u x pl pr pd pu s e f =
    turned ((l + r + d + u) * x) (l * pl + r * pr + (d * pd + u * pu)) (r * pr + l * pl) (r * x + l * x) (u * pu + d * pd) (u * x + d * x) s
    e f (omega arith)

-- h³ of the four sides is l, r, d, u, and a link is h³ times a or b, by its direction: diagonal × x − pull + source is the source less both
-- differences of flux, each by its factor
balance : (a b l r d u x pl pr pd pu : ℕ) (s : ℤ)
    → slack_of (a * l + a * r + b * d + b * u) (a * l * pl + a * r * pr + (b * d * pd + b * u * pu)) s x
    ≡ s -ℤ (pos a *ℤ (pos r *ℤ (pos pr -ℤ pos x) -ℤ pos l *ℤ (pos x -ℤ pos pl)) +ℤ pos b *ℤ (pos u *ℤ (pos pu -ℤ pos x) -ℤ pos d *ℤ (pos x -ℤ pos pd)))
balance a b l r d u x pl pr pd pu s =
    linked_balance (a * l) (a * r) (b * d) (b * u) x pl pr pd pu s (factor_sub a l r x pl pr) (factor_sub b d u x pd pu)

-- ---- what a formed film stores

module _ (g : Gauge) where
  -- the index of a cell, from its row and column, which cell i has from its index
  abbrev at : ℕ → ℕ → ℕ
  at r c = index g.columns r c

  index_at : (i : ℕ) → at (i / g.columns + 1) (i % g.columns + 1) ≡ i
  index_at i = simp add-sub_cancel (div-add-mod' i g.columns)

  -- a number for each cell, as a formed film has them in a list
  abbrev stored : {A : Type 0} → (ℕ → ℕ → A) → List A
  stored number = tabulate (g.rows * g.columns) (by_cell g number)

  stored_at : {A : Type 0} (number : ℕ → ℕ → A) (d : A) {r c : ℕ} → Inside (formed g) r c → get_or (stored number) (at r c) d ≡ number r c
  stored_at number d {r} {c} w =
      tabulate_at _ (by_cell g number) d (at r c) (index_low w)
      ∙ ap₂ number (ap (λ t. t + 1) (index_row w) ∙ omega arith) (ap (λ t. t + 1) (index_column w) ∙ omega arith)

  -- the factors of the two directions
  abbrev along : ℕ
  along = (factors_of g.steps).along

  abbrev across : ℕ
  across = (factors_of g.steps).across

  -- h³ of the side between (r, c) and (s, d), by a factor: the same from either
  abbrev between : ℕ → ℕ → ℕ → ℕ → ℕ → ℕ
  between k r c s d = link_of k (thickness_at g r c) (thickness_at g s d)

  between_comm : (k r c s d : ℕ) → between k r c s d ≡ between k s d r c
  between_comm k r c s d = ap (λ h. k * (h * h * h)) (add_comm (thickness_at g r c) (thickness_at g s d))

  -- and h³ itself
  abbrev cubed : ℕ → ℕ → ℕ → ℕ → ℕ
  cubed r c s d = cube g [] (doubled g [] r c s d)

  -- where (r, c) and the next in its row or its column are cells, (r, c) stores the link
  right_link_lem : {r c d : ℕ} → c + 1 ≡ d → Inside (formed g) r c → Inside (formed g) r d → right_at (formed g) (at r c) ≡ between along r c r d
  right_link_lem {c = c} e u v = stored_at (formed_right g) 0 u ∙ rw (lt-ltb c g.columns (omega arith), e)

  up_link_lem : {r c s : ℕ} → r + 1 ≡ s → Inside (formed g) r c → Inside (formed g) s c → up_at (formed g) (at r c) ≡ between across r c s c
  up_link_lem {r = r} e u v = stored_at (formed_up g) 0 u ∙ rw (lt-ltb r g.rows (omega arith), e)

-- ---- the four sides of cell (r, c) together

module _ (g : Gauge) (r c : ℕ) (w : Inside (formed g) r c) where
  left_linked : Inside (formed g) r (c - 1) → right_at (formed g) (at g r c - 1) ≡ between g (along g) r (c - 1) r c
  left_linked v = rw (left_index w v) (right_link_lem g (omega arith) v w)

  down_linked : Inside (formed g) (r - 1) c → up_at (formed g) (at g r c - g.columns) ≡ between g (across g) (r - 1) c r c
  down_linked v = rw (down_index w v) (up_link_lem g (omega arith) v w)

  -- the right side's link is the cell's own and the left side's the one of the cell before; likewise up and down
  linked : Linked (formed g) r c (between g (along g) r (c - 1) r c) (between g (along g) r c r (c + 1)) (between g (across g) (r - 1) c r c)
      (between g (across g) r c (r + 1) c)
  linked = record { left_is = left_linked; right_is = right_link_lem g refl w; down_is = down_linked; up_is = up_link_lem g refl w }

  -- the diagonal is the sum of the four
  diagonal_sides : diagonal_at (formed g) (at g r c)
      ≡ between g (along g) r (c - 1) r c + between g (along g) r c r (c + 1) + between g (across g) (r - 1) c r c
      + between g (across g) r c (r + 1) c
  diagonal_sides =
      stored_at g (formed_diagonal g) 0 w
      ∙ ap₂ (λ l d. l + right_link g r c + d + up_link g r c) (between_comm g (along g) r c r (c - 1)) (between_comm g (across g) r c (r - 1) c)

  -- the theorem, by row and column
  reynolds_cell : (p : List ℕ) → slack (formed g) p (at g r c) ≡ reynolds g p r c
  reynolds_cell p =
      (λ j. slack_of (diagonal_sides j) (pull_sides (formed g) p w linked j) (stored_at g (formed_source g) (pos 0) w j) (number_at_lem g p w refl j))
      ∙ balance (along g) (across g) (cubed g r (c - 1) r c) (cubed g r c r (c + 1)) (cubed g (r - 1) c r c) (cubed g r c (r + 1) c)
      (pressure_at g p r c) (pressure_at g p r (c - 1)) (pressure_at g p r (c + 1)) (pressure_at g p (r - 1) c) (pressure_at g p (r + 1) c)
      (formed_source g r c)

  -- the four links and the diagonal of a formed film, from the cell
  pub formed_linked : Linked (formed g) r c (left_link g r c) (right_link g r c) (down_link g r c) (up_link g r c)
  formed_linked =
      record {
        left_is = λ v. left_linked v ∙ between_comm g (along g) r (c - 1) r c;
        right_is = linked.right_is;
        down_is = λ v. down_linked v ∙ between_comm g (across g) (r - 1) c r c;
        up_is = linked.up_is;
      }

  pub formed_diagonal_lem : diagonal_at (formed g) (at g r c) ≡ formed_diagonal g r c
  formed_diagonal_lem = stored_at g (formed_diagonal g) 0 w

-- the theorem, by index: cell i is in row i / columns + 1 and column i % columns + 1
pub reynolds_slack : (g : Gauge) (p : List ℕ) (i : ℕ) → i < g.rows * g.columns
    → slack (formed g) p i ≡ reynolds g p (i / g.columns + 1) (i % g.columns + 1)
reynolds_slack g p i h =
    let some : 0 < g.columns = pos_right g.rows g.columns h in
    let row : i / g.columns < g.rows = (div-lt_iff_lt-mul some).1 h in
    let column : i % g.columns < g.columns = mod-lt i some in
    ap (slack (formed g) p) (sym (index_at g i)) ∙ reynolds_cell g (i / g.columns + 1) (i % g.columns + 1) (omega arith) p
