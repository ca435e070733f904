mod NestFronts
mod NestSpelled
