-- What is proved of the codes of templates in registers.
use Rattle.register.specs.Laws.{EqualCodes, NoneBegins, WrittenAgain}
use Rattle.register.proofs.Listed.{reached-listed, has_storable}
use Rattle.register.proofs.Storable.{accepted-one, again, begun, shared, equal}

pub equal_codes : EqualCodes
equal_codes = record {
  shared = λ g h s t a b p q e. shared s t (has_storable g (reached-listed g a) p) (has_storable h (reached-listed h b) q) e;
  equal = λ g h s t a b p q e. equal s t (has_storable g (reached-listed g a) p) (has_storable h (reached-listed h b) q) e;
  one = accepted-one;
}

pub none-begins : NoneBegins
none-begins g h s t x a b p q e = (begun s t (has_storable g (reached-listed g a) p) (has_storable h (reached-listed h b) q) x e).1

pub written_again : WrittenAgain
written_again g t a p = again t (has_storable g (reached-listed g a) p)
