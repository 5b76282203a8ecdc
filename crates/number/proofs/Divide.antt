-- The greatest common divisor and the least common multiple are what their names say: of two numbers first, then
-- of a list.
use Prim.Native.Nat.{ℕ, zero, suc, ◌-◌, ◌*◌, ◌/◌, ◌%◌, ◌≤◌, ◌<◌, ◌∣◌}
use mathlib.Core.Path.{◌≡◌, refl, sym, ◌∙◌, ap, subst}
use mathlib.Core.List.{List, [], ◌∷◌, ◌++◌}
use native.Mathlib.Nat.{mod-lt, zero-lt-suc, le_refl, not-suc-le-zero, mod_def, le_of_dvd}
use native.Mathlib.Nat.{dvd_refl, dvd-zero, dvd_trans, dvd-mod_iff, dvd-mul_left, mul-dvd-mul}
use native.Mathlib.Nat.{mul-dvd-mul_left, dvd_of_mul-dvd-mul_right, pos_of_dvd_of_pos, one-dvd}
use native.Mathlib.Nat.{mul_assoc, mul_comm, mul-sub, mul-zero, zero-mul, mul-pos, mul_right_comm}
use native.Mathlib.Nat.{mul-div-mul_left, div-mul_cancel}
use native.Mathlib.Omega.{arith}
use Rattle.number.specs.Divide.{euclid, gcd, lcm, fold, gcd_of, lcm_of, Each, IsGcd, IsLcm}

-- more calls than enough change nothing
euclid_calls : (k l a b : ℕ) → b < k → b < l → euclid k a b ≡ euclid l a b
unfolding euclid
euclid_calls zero l a b h g = absurd (not-suc-le-zero h)
euclid_calls (suc k) zero a b h g = absurd (not-suc-le-zero g)
euclid_calls (suc k) (suc l) a zero h g = refl
euclid_calls (suc k) (suc l) a (suc b) h g =
    let m : a % suc b < suc b = mod-lt a (zero-lt-suc b) in
    euclid_calls k l (suc b) (a % suc b) (omega arith) (omega arith)

pub gcd_zero : (a : ℕ) → gcd a 0 ≡ a
unfolding gcd euclid
gcd_zero a = refl

pub gcd_step : (a b : ℕ) → 0 < b → gcd a b ≡ gcd b (a % b)
unfolding gcd euclid
gcd_step a zero h = absurd (not-suc-le-zero h)
gcd_step a (suc b) h =
    let m : a % suc b < suc b = mod-lt a (zero-lt-suc b) in
    euclid_calls (suc b) (suc (a % suc b)) (suc b) (a % suc b) m (omega arith)

euclid_divides : (k a b : ℕ) → b < k → (euclid k a b ∣ a) × (euclid k a b ∣ b)
unfolding euclid
euclid_divides zero a b h = absurd (not-suc-le-zero h)
euclid_divides (suc k) a zero h = (dvd_refl a, dvd-zero a)
euclid_divides (suc k) a (suc b) h =
    let m : a % suc b < suc b = mod-lt a (zero-lt-suc b) in
    let (l, r) = euclid_divides k (suc b) (a % suc b) (omega arith) in
    ((dvd-mod_iff (euclid k (suc b) (a % suc b)) {m = a} {n = suc b} l).0 r, l)

euclid_greatest : (k a b d : ℕ) → b < k → d ∣ a → d ∣ b → d ∣ euclid k a b
unfolding euclid
euclid_greatest zero a b d h p q = absurd (not-suc-le-zero h)
euclid_greatest (suc k) a zero d h p q = p
euclid_greatest (suc k) a (suc b) d h p q =
    let m : a % suc b < suc b = mod-lt a (zero-lt-suc b) in
    euclid_greatest k (suc b) (a % suc b) d (omega arith) q ((dvd-mod_iff d {m = a} {n = suc b} q).1 p)

-- it divides both, and each common divisor divides it
pub gcd_divides_left : (a b : ℕ) → gcd a b ∣ a
unfolding gcd
gcd_divides_left a b = (euclid_divides (suc b) a b (le_refl (suc b))).0

pub gcd_divides_right : (a b : ℕ) → gcd a b ∣ b
unfolding gcd
gcd_divides_right a b = (euclid_divides (suc b) a b (le_refl (suc b))).1

pub gcd_greatest : (a b d : ℕ) → d ∣ a → d ∣ b → d ∣ gcd a b
unfolding gcd
gcd_greatest a b d p q = euclid_greatest (suc b) a b d (le_refl (suc b)) p q

pub gcd_positive : (a b : ℕ) → 0 < a → 0 < gcd a b
gcd_positive a b h = pos_of_dvd_of_pos {m = gcd a b} {n = a} (gcd_divides_left a b) h

-- a remainder of multiples is the multiple of the remainder
mul_mod : (m a b : ℕ) → 0 < m → m * a % (m * b) ≡ m * (a % b)
mul_mod m a b h =
    mod_def (m * a) (m * b)
    ∙ ap (λ q. m * a - m * b * q) (mul-div-mul_left {m = m} a b h)
    ∙ ap (λ q. m * a - q) (mul_assoc m b (a / b))
    ∙ sym (mul-sub m a (b * (a / b)))
    ∙ ap (λ q. m * q) (sym (mod_def a b))

gcd_mul_below : (k m a b : ℕ) → b < k → 0 < m → gcd (m * a) (m * b) ≡ m * gcd a b
gcd_mul_below zero m a b h p = absurd (not-suc-le-zero h)
gcd_mul_below (suc k) m a zero h p =
    ap (gcd (m * a)) (mul-zero m) ∙ gcd_zero (m * a) ∙ ap (λ q. m * q) (sym (gcd_zero a))
gcd_mul_below (suc k) m a (suc b) h p =
    let r : a % suc b < suc b = mod-lt a (zero-lt-suc b) in
    gcd_step (m * a) (m * suc b) (mul-pos p (zero-lt-suc b))
    ∙ ap (gcd (m * suc b)) (mul_mod m a (suc b) p)
    ∙ gcd_mul_below k m (suc b) (a % suc b) (omega arith) p
    ∙ ap (λ q. m * q) (sym (gcd_step a (suc b) (zero-lt-suc b)))

-- what multiplies both multiplies their greatest common divisor
gcd_mul : (m a b : ℕ) → 0 < m → gcd (m * a) (m * b) ≡ m * gcd a b
gcd_mul m a b = gcd_mul_below (suc b) m a b (le_refl (suc b))

module _ (a b : ℕ) (positive : 0 < a) where
  lcm_gcd : lcm a b * gcd a b ≡ a * b
  unfolding lcm
  lcm_gcd =
      mul_right_comm (a / gcd a b) b (gcd a b)
      ∙ ap (λ q. q * b) (div-mul_cancel (gcd a b) {m = a} (gcd_divides_left a b))

  -- both divide it, and it divides each common multiple
  pub lcm_multiple_left : a ∣ lcm a b
  lcm_multiple_left =
      dvd_of_mul-dvd-mul_right {k = gcd a b} a {n = lcm a b} (gcd_positive a b positive)
      (subst (λ q. a * gcd a b ∣ q) (sym lcm_gcd) (mul-dvd-mul_left (gcd a b) {c = b} a (gcd_divides_right a b)))

  pub lcm_multiple_right : b ∣ lcm a b
  unfolding lcm
  lcm_multiple_right = dvd-mul_left b (a / gcd a b)

  product_divides : (m : ℕ) → a ∣ m → b ∣ m → a * b ∣ m * gcd a b
  product_divides zero p q = subst (λ z. a * b ∣ z) (sym (zero-mul (gcd a b))) (dvd-zero (a * b))
  product_divides (suc m) p q =
      subst (λ z. a * b ∣ z) (gcd_mul (suc m) a b (zero-lt-suc m))
      (gcd_greatest (suc m * a) (suc m * b) (a * b)
      (subst (λ z. z ∣ suc m * a) (mul_comm b a) (mul-dvd-mul b {b = suc m} a {d = a} q (dvd_refl a)))
      (mul-dvd-mul a {b = suc m} b {d = b} p (dvd_refl b)))

  pub lcm_least : (m : ℕ) → a ∣ m → b ∣ m → lcm a b ∣ m
  lcm_least m p q =
      dvd_of_mul-dvd-mul_right {k = gcd a b} (lcm a b) {n = m} (gcd_positive a b positive)
      (subst (λ z. z ∣ m * gcd a b) (sym lcm_gcd) (product_divides m p q))

  pub lcm_positive : 0 < b → 0 < lcm a b
  lcm_positive h = mul_factor_positive (lcm a b) (gcd a b) (subst (λ z. 0 < z) (sym lcm_gcd) (mul-pos positive h))
    where
      mul_factor_positive : (x y : ℕ) → 0 < x * y → 0 < x
      mul_factor_positive zero y l = absurd (omega (arith, zero-mul y))
      mul_factor_positive (suc x) y l = zero-lt-suc x

pub fold_append : (f : ℕ → ℕ → ℕ) (x : ℕ) (l k : List ℕ) → fold f x (l ++ k) ≡ fold f (fold f x l) k
unfolding fold
fold_append f x [] k = refl
fold_append f x (a ∷ l) k = fold_append f (f x a) l k

-- of a list: what was taken in already, and what is left
gcds_start : (g : ℕ) (l : List ℕ) → fold gcd g l ∣ g
unfolding fold
gcds_start g [] = dvd_refl g
gcds_start g (a ∷ l) =
    dvd_trans (fold gcd (gcd g a) l) (gcds_start (gcd g a) l) (gcd_divides_left g a)

gcds_divides : (g : ℕ) (l : List ℕ) → Each (λ a. fold gcd g l ∣ a) l
unfolding fold
gcds_divides g [] = tt
gcds_divides g (a ∷ l) = (
  dvd_trans (fold gcd (gcd g a) l) (gcds_start (gcd g a) l) (gcd_divides_right g a),
  gcds_divides (gcd g a) l,
)

gcds_greatest : (g : ℕ) (l : List ℕ) (d : ℕ) → d ∣ g → Each (λ a. d ∣ a) l → d ∣ fold gcd g l
unfolding fold
gcds_greatest g [] d h hs = h
gcds_greatest g (a ∷ l) d h (k, hs) = gcds_greatest (gcd g a) l d (gcd_greatest g a d h k) hs

pub gcd_of_is : (l : List ℕ) → IsGcd l (gcd_of l)
gcd_of_is l = record { divides = gcds_divides 0 l; greatest = λ d h. gcds_greatest 0 l d (dvd-zero d) h }

lcms_start : (h : ℕ) (l : List ℕ) → 0 < h → Each (λ a. 0 < a) l → h ∣ fold lcm h l
unfolding fold
lcms_start h [] p ps = dvd_refl h
lcms_start h (a ∷ l) p (q, ps) =
    dvd_trans h (lcm_multiple_left h a p)
    (lcms_start (lcm h a) l (lcm_positive h a p q) ps)

lcms_multiple : (h : ℕ) (l : List ℕ) → 0 < h → Each (λ a. 0 < a) l → Each (λ a. a ∣ fold lcm h l) l
unfolding fold
lcms_multiple h [] p ps = tt
lcms_multiple h (a ∷ l) p (q, ps) =
    let r : 0 < lcm h a = lcm_positive h a p q in (
      dvd_trans a (lcm_multiple_right h a p) (lcms_start (lcm h a) l r ps),
      lcms_multiple (lcm h a) l r ps,
    )

lcms_least : (h : ℕ) (l : List ℕ) → 0 < h → Each (λ a. 0 < a) l
    → (m : ℕ) → h ∣ m → Each (λ a. a ∣ m) l → fold lcm h l ∣ m
unfolding fold
lcms_least h [] p ps m k ks = k
lcms_least h (a ∷ l) p (q, ps) m k (j, ks) =
    lcms_least (lcm h a) l (lcm_positive h a p q) ps m (lcm_least h a p m k j) ks

pub lcm_of_is : (l : List ℕ) → Each (λ a. 0 < a) l → IsLcm l (lcm_of l)
lcm_of_is l ps =
    record { multiple = lcms_multiple 1 l (le_refl 1) ps; least = λ m h. lcms_least 1 l (le_refl 1) ps m (one-dvd m) h }

-- a least common multiple never falls when numbers are added
pub lcms_positive : (h : ℕ) (l : List ℕ) → 0 < h → Each (λ a. 0 < a) l → 0 < fold lcm h l
unfolding fold
lcms_positive h [] p ps = p
lcms_positive h (a ∷ l) p (q, ps) = lcms_positive (lcm h a) l (lcm_positive h a p q) ps

pub lcms_rises : (h : ℕ) (l : List ℕ) → 0 < h → Each (λ a. 0 < a) l → h ≤ fold lcm h l
lcms_rises h l p ps = le_of_dvd (lcms_positive h l p ps) (lcms_start h l p ps)
