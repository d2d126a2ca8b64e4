-- Whether two kinds are one, computed.
use Rattle.std.specs.Prelude.{Bool, true, false, ◌&&◌}
use Rattle.con_terms.specs.Trees.{Kd, types, units, names, row_of, to, tuple_of, Kds, no_kinds, kind}

abbrev mutual
  pub kd_eq : Kd → Kd → Bool
  kd_eq types types = true
  kd_eq units units = true
  kd_eq names names = true
  kd_eq (row_of k) (row_of l) = kd_eq k l
  kd_eq (to k l) (to m n) = kd_eq k m && kd_eq l n
  kd_eq (tuple_of ks) (tuple_of ls) = kds_eq ks ls
  kd_eq _ _ = false

  pub kds_eq : Kds → Kds → Bool
  kds_eq no_kinds no_kinds = true
  kds_eq (kind k ks) (kind l ls) = kd_eq k l && kds_eq ks ls
  kds_eq _ _ = false
