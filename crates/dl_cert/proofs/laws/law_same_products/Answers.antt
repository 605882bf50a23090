use Rattle.dl_cert.proofs.SameProducts.{same_products}
use Rattle.dl_cert.proofs.laws.law_same_products.Goals as goal

pub returns : goal.returns
returns c = same_products
