-- The derived test of products is the one that the definitions have.
use Rattle.std.proofs.Common.{◌≡◌, ℕ, Bool, refl, ap}
use Rattle.std.specs.HashMap.{HashMap, get}
use Rattle.ftl_deps.specs.reads.Products.{at_product, same_product}
use Rattle.ftl_deps.specs.contracts.reads.product.ProductPartialEq.TheImpl as block
use Rattle.ftl_deps.specs.declared.reads.product.Product.{Product}
use Rattle.ftl_deps.specs.declared.reads.product.Product.TheVariants as products

pub tests_same : (s t : Product) → block.ghosts.eq s t ≡ same_product s t
tests_same (products.Own k a) (products.Own l b) = refl
tests_same (products.Own k a) (products.Kid l d b) = refl
tests_same (products.Own k a) (products.Above i b) = refl
tests_same (products.Own k a) (products.Below i b) = refl
tests_same (products.Kid k c a) (products.Own l b) = refl
tests_same (products.Kid k c a) (products.Kid l d b) = refl
tests_same (products.Kid k c a) (products.Above i b) = refl
tests_same (products.Kid k c a) (products.Below i b) = refl
tests_same (products.Above i a) (products.Own l b) = refl
tests_same (products.Above i a) (products.Kid l d b) = refl
tests_same (products.Above i a) (products.Above j b) = refl
tests_same (products.Above i a) (products.Below j b) = refl
tests_same (products.Below i a) (products.Own l b) = refl
tests_same (products.Below i a) (products.Kid l d b) = refl
tests_same (products.Below i a) (products.Above j b) = refl
tests_same (products.Below i a) (products.Below j b) = refl

-- so is what a map has at a product
pub at_is : {S : Type 0} (m : HashMap Product ℕ S) (p : Product) → get block.ghosts.eq m p ≡ at_product m p
at_is m p = ap (λ (eq : Product → Product → Bool). get eq m p) (λ i s t. tests_same s t i)
